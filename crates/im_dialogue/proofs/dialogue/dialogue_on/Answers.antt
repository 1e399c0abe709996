use Rattle.std.proofs.Common.{◌≡◌, false, ◌⊎◌, sym, subst, inr}
use Rattle.im_session.specs.Kept.{SessionState}
use Rattle.im_dialogue.proofs.DialogueLemmas.{honest_before, talked}
use Rattle.im_dialogue.specs.{declared.serving.Setting.Setting, Talk.outputs, Talk.with_input}
use Rattle.im_dialogue.specs.Dialogue.{BeginsNow, BeginsTalk, Talked, TalkUnopened}
use Rattle.im_dialogue.proofs.dialogue.dialogue_on.Goals as goal

pub returns-in-Ok-clause-talked : goal.returns-in-Ok-clause-talked
returns-in-Ok-clause-talked g c = λ honest.
    let dialogue = c.new-dialogue.result in
    let opened = subst (BeginsTalk g.D.Disk c.args.disk) (sym c.new-dialogue.ensures.session) c.in-Ok.ensures.begins in
    let before = with_input (g.R.Read.remaining c.args.input.now)
    (outputs (g.W.Write.contents c.args.out.now) (g.B.Backups.kept c.args.backups.now)) in
    let after = outputs (g.W.Write.contents c.talk_on.new.out) (g.B.Backups.kept c.talk_on.new.backups) in
    subst (λ (s : Setting). TalkUnopened g.D.Disk.now g.D.Disk.past c.args.disk c.talk_on.result.1 before after
    c.talk_on.result.0
    ⊎ Talked g.D.Disk s.watch c.args.disk c.talk_on.result.1 before after c.talk_on.result.0)
    c.new-dialogue.ensures.setting
    (inr (talked g.D.Disk dialogue.setting.watch c.args.disk dialogue.front.session opened c.talk_on.result.1 before
    after c.talk_on.result.0 c.talk_on.ensures.closed honest))

pub returns-in-Ok-clause-honest : goal.returns-in-Ok-clause-honest
returns-in-Ok-clause-honest g c = λ honest.
    let dialogue = c.new-dialogue.result in
    let opened = subst (BeginsTalk g.D.Disk c.args.disk) (sym c.new-dialogue.ensures.session) c.in-Ok.ensures.begins in
    honest_before g.D.Disk dialogue.setting.watch c.args.disk dialogue.front.session opened c.talk_on.result.1
    (with_input (g.R.Read.remaining c.args.input.now)
    (outputs (g.W.Write.contents c.args.out.now) (g.B.Backups.kept c.args.backups.now)))
    (outputs (g.W.Write.contents c.talk_on.new.out) (g.B.Backups.kept c.talk_on.new.backups)) c.talk_on.result.0
    c.talk_on.ensures.closed honest

pub talk_on-requires-clause-begins : goal.talk_on-requires-clause-begins
talk_on-requires-clause-begins g c =
    subst BeginsNow (sym c.new-dialogue.ensures.session) c.in-Ok.ensures.begins.begins

pub talk_on-requires-clause-works : goal.talk_on-requires-clause-works
talk_on-requires-clause-works g c = subst (λ (s : SessionState _). s.engine.failed ≡ false)
    (sym c.new-dialogue.ensures.session) c.in-Ok.ensures.begins.works
