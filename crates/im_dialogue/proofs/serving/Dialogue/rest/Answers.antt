use Rattle.im_dialogue.proofs.ServeLemmas.{turns_failed, turns_told}
use Rattle.im_dialogue.{proofs.TalkLemmas.goes_talk, proofs.TalkLemmas.nothing_said, specs.Serving.told_by_it}
use Rattle.im_dialogue.proofs.serving.Dialogue.rest.Goals as goal

pub returns-then-self-clause-talks : goal.returns-then-self-clause-talks
returns-then-self-clause-talks g c = λ kept left.
    let old = c.args.self.now in
    goes_talk old.setting.watch old.front.session old.front.session (told_by_it old kept left)
    (nothing_said old.front.session)

pub returns-in-Ok-clause-talks : goal.returns-in-Ok-clause-talks
returns-in-Ok-clause-talks g c = λ kept left.
    let old = c.args.self.now in
    turns_told old.setting.watch old.front c.turn_while_quiet.new.front c.turn_while_quiet.ensures.same
    c.in-Ok.ensures.turned _ kept left

pub returns-in-Err-clause-talks : goal.returns-in-Err-clause-talks
returns-in-Err-clause-talks g c = λ kept left.
    let old = c.args.self.now in
    turns_failed old.setting.watch old.front c.turn_while_quiet.new.front c.turn_while_quiet.ensures.same _ kept left
