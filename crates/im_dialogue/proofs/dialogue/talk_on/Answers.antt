use Rattle.im_dialogue.proofs.DialogueLemmas.{closed_by, closed_on}
use Rattle.im_dialogue.specs.Talk.{outputs, with_input}
use Rattle.im_dialogue.proofs.dialogue.talk_on.Goals as goal

pub returns-in-Ok-clause-closed : goal.returns-in-Ok-clause-closed
returns-in-Ok-clause-closed g c =
    closed_on g.D.Disk c.args.dialogue.setting.watch c.args.dialogue.front.session c.serve_lines.new.self.front.session
    c.requires.begins c.requires.works c.close.ensures.kept c.close.result c.close.ensures.disk
    (with_input (g.R.Read.remaining c.args.input.now)
    (outputs (g.W.Write.contents c.args.out.now) (g.B.Backups.kept c.args.backups.now))) 0
    (outputs (g.W.Write.contents c.serve_lines.new.out) (g.B.Backups.kept c.serve_lines.new.backups))
    (g.R.Read.remaining c.serve_lines.new.input) c.in-Ok.ensures.talks

pub returns-in-Err-clause-closed : goal.returns-in-Err-clause-closed
returns-in-Err-clause-closed g c =
    closed_by g.D.Disk c.args.dialogue.setting.watch c.args.dialogue.front.session c.serve_lines.new.self.front.session
    c.requires.begins c.requires.works c.close-in-Err.ensures.kept c.close-in-Err.result c.close-in-Err.ensures.disk
    (with_input (g.R.Read.remaining c.args.input.now)
    (outputs (g.W.Write.contents c.args.out.now) (g.B.Backups.kept c.args.backups.now))) c.end.result
    (g.W.Write.contents c.serve_lines.new.out) (g.W.Write.contents c.end.new.out)
    (g.B.Backups.kept c.serve_lines.new.backups) c.in-Err.ensures.talks c.end.ensures.last c.end.ensures.refused
