use Rattle.std.proofs.Common.{List, ◌++◌, Some, sym, refl, ap}
use Rattle.im_dialogue.proofs.{TalkLemmas.quiet, TalkLemmas.says_as, WatchLemmas.not_command}
use Rattle.im_dialogue.specs.{Backups.Backup, declared.asking.Question.TheVariants.About}
use Rattle.im_dialogue.specs.{declared.asking.Question.TheVariants.Look, Talk.backup_by, Talk.put_by}
use Rattle.im_dialogue.specs.declared.answers.LineAnswer.{LineAnswer, TheVariants.Looked}
use Rattle.im_dialogue.proofs.talk.answer.Goals as goal

pub returns-in-Serve-clause-answered : goal.returns-in-Serve-clause-answered
returns-in-Serve-clause-answered g c = absurd (not_command _ _ c.requires.other c.in-Serve.is)

pub returns-in-Ok-clause-answered : goal.returns-in-Ok-clause-answered
returns-in-Ok-clause-answered g c = says_as c.args.front.now.session c.turn.new.front.session
    _ (Some c.args.asked) _ (ap Some c.in-Turn.is) c.in-Ok.ensures.answered

pub returns-in-Look-clause-answered : goal.returns-in-Look-clause-answered
returns-in-Look-clause-answered g c = says_as c.args.front.now.session c.args.front.now.session _ (Some c.args.asked) _
    (ap Some c.in-Look.is)
    (quiet c.args.front.now.session (Some (Look c.in-Look.look)) (Looked c.in-Look.look) (λ m. refl) (λ f turns. refl))

pub returns-in-Window-clause-answered : goal.returns-in-Window-clause-answered
returns-in-Window-clause-answered g c = says_as c.args.front.now.session c.args.front.now.session
    _ (Some c.args.asked) _ (ap Some c.in-Window.is) c.window.ensures.answered

pub returns-in-Room-clause-answered : goal.returns-in-Room-clause-answered
returns-in-Room-clause-answered g c = says_as c.args.front.now.session c.args.front.now.session
    _ (Some c.args.asked) _ (ap Some c.in-Room.is) c.room.ensures.answered

pub returns-in-Count-clause-answered : goal.returns-in-Count-clause-answered
returns-in-Count-clause-answered g c = says_as c.args.front.now.session c.args.front.now.session
    _ (Some c.args.asked) _ (ap Some c.in-Count.is) c.count.ensures.answered

pub returns-in-About-clause-answered : goal.returns-in-About-clause-answered
returns-in-About-clause-answered g c =
    let told = rw c.engine.ensures.state at c.about.ensures in
    says_as c.args.front.now.session c.args.front.now.session _ (Some c.args.asked) _ (ap Some c.in-About.is)
    (quiet c.args.front.now.session (Some About) c.about.result (λ m. ap (λ (a : LineAnswer). put_by m a) told)
    (λ f turns. (c.args.slots, told)))

pub returns-in-Backup-clause-answered : goal.returns-in-Backup-clause-answered
returns-in-Backup-clause-answered g c = says_as c.args.front.now.session c.args.front.now.session
    _ (Some c.args.asked) _ (ap Some c.in-Backup.is) c.keep.ensures.answered

pub returns-in-Ok-clause-kept : goal.returns-in-Ok-clause-kept
returns-in-Ok-clause-kept g c = let before = g.B.Backups.kept c.args.backups.now in
    ap (λ (l : List Backup). l ++ before) (sym (c.in-Ok.ensures.same c.args.front.now.session.engine.memory))

pub returns-in-Look-clause-kept : goal.returns-in-Look-clause-kept
returns-in-Look-clause-kept g c = refl

pub returns-in-Window-clause-kept : goal.returns-in-Window-clause-kept
returns-in-Window-clause-kept g c = let before = g.B.Backups.kept c.args.backups.now in
    ap (λ (l : List Backup). l ++ before) (sym (c.window.ensures.same c.args.front.now.session.engine.memory))

pub returns-in-Room-clause-kept : goal.returns-in-Room-clause-kept
returns-in-Room-clause-kept g c = let before = g.B.Backups.kept c.args.backups.now in
    ap (λ (a : LineAnswer). backup_by c.args.front.now.session.engine.memory a ++ before) (sym c.room.ensures.room)

pub returns-in-Count-clause-kept : goal.returns-in-Count-clause-kept
returns-in-Count-clause-kept g c = let before = g.B.Backups.kept c.args.backups.now in
    ap (λ (l : List Backup). l ++ before) (sym (c.count.ensures.same c.args.front.now.session.engine.memory))

pub returns-in-About-clause-kept : goal.returns-in-About-clause-kept
returns-in-About-clause-kept g c =
    let before = g.B.Backups.kept c.args.backups.now in
    let told = rw c.engine.ensures.state at c.about.ensures in
    ap (λ (a : LineAnswer). backup_by c.args.front.now.session.engine.memory a ++ before) (sym told)
