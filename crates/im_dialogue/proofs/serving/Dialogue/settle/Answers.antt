use Rattle.im_dialogue.proofs.{TalkLemmas.goes_talk, TalkLemmas.nothing_said, ToldLemmas.asked_if}
use Rattle.im_dialogue.specs.Serving.{told_by_it}
use Rattle.im_dialogue.proofs.serving.Dialogue.settle.Goals as goal

pub returns-then-self-clause-talks : goal.returns-then-self-clause-talks
returns-then-self-clause-talks g c = λ kept left.
    let old = c.args.self.now in
    goes_talk old.setting.watch old.front.session old.front.session (told_by_it old kept left)
    (nothing_said old.front.session)

pub returns-clause-asked : goal.returns-clause-asked
returns-clause-asked g c = asked_if c.drain.result c.drain.new.self.front.asked c.drain.ensures.none
