use Rattle.std.proofs.Common.{ℕ, [], ◌∷◌, ◌++◌, Result, ap, ◌∙◌, subst}
use Rattle.im_types.specs.Types.{Outcome, Refusal, as_served}
use Rattle.im_engine.proofs.Members.{answer_taken, contents_taken, left_taken, pages_taken, taken_parts}
use Rattle.im_engine.specs.Groups.{StaysBut}
use Rattle.im_engine.proofs.whole.tell_taken.Goals as goal

pub tell-requires-clause-accepted : goal.tell-requires-clause-accepted
tell-requires-clause-accepted c = (taken_parts c.args.memory.now.contents c.args.left.now c.args.command.now
    c.requires.taken).0

pub returns-clause-answer : goal.returns-clause-answer
returns-clause-answer c = c.tell.ensures.answer
    ∙ ap (λ (a : Result Outcome Refusal). c.args.served.now.items ++ as_served a ∷ [])
    (answer_taken c.args.memory.now.contents c.args.left.now c.args.command.now c.requires.taken)

pub returns-clause-behind : goal.returns-clause-behind
returns-clause-behind c = (
  c.tell.ensures.contents
      ∙ contents_taken c.args.memory.now.contents c.args.left.now c.args.command.now c.requires.taken,
  c.saturating_sub-less.ensures
      ∙ left_taken c.args.memory.now.contents c.args.left.now c.args.command.now c.requires.taken,
)

pub returns-clause-stays : goal.returns-clause-stays
returns-clause-stays c = subst (λ (n : ℕ). StaysBut n c.args.checkpoint.now c.tell.new.checkpoint)
    (pages_taken c.args.memory.now.contents c.args.left.now c.args.command.now c.requires.taken) c.tell.ensures.stays
