use Rattle.std.proofs.Common.{◌≡◌, true, false, Ok, sym, ap, ◌∙◌}
use Rattle.im_types.specs.Types.{is_accepted}
use Rattle.im_engine.proofs.Members.{answer_full, answer_unaccepted}
use Rattle.im_engine.proofs.Serving.{accepts, refused_acceptance, refused_unaccepted}
use Rattle.im_engine.proofs.groups.answer_alone.Goals as goal

pub returns-in-Ok-true-clause-answer : goal.returns-in-Ok-true-clause-answer
returns-in-Ok-true-clause-answer c = answer_full c.args.memory.now.contents c.args.left c.args.command.now c.requires
    (accepts c.args.memory.now.contents c.args.command.now true c.judge.result c.judge.ensures
    (c.in-Ok-true.is ∙ ap (λ b. Ok b) c.in-Ok-true.field-0-test))

pub returns-in-Ok-false-clause-answer : goal.returns-in-Ok-false-clause-answer
returns-in-Ok-false-clause-answer c =
    let un : is_accepted c.args.memory.now.contents c.args.command.now
    ≡ false = accepts c.args.memory.now.contents c.args.command.now false c.judge.result c.judge.ensures
    (c.in-Ok-false.is ∙ ap (λ b. Ok b) c.in-Ok-false.field-0-test) in
    c.step.ensures.answer ∙ sym (answer_unaccepted c.args.memory.now.contents c.args.left c.args.command.now un)

pub returns-in-Ok-false-clause-same : goal.returns-in-Ok-false-clause-same
returns-in-Ok-false-clause-same c = c.step.ensures.unaccepted
    (accepts c.args.memory.now.contents c.args.command.now false c.judge.result c.judge.ensures
    (c.in-Ok-false.is ∙ ap (λ b. Ok b) c.in-Ok-false.field-0-test))

pub returns-in-Err-clause-answer : goal.returns-in-Err-clause-answer
returns-in-Err-clause-answer c =
    let m = c.args.memory.now.contents in
    let refused = refused_acceptance m
    c.args.command.now c.in-Err.refusal c.judge.result c.judge.ensures c.in-Err.is in
    sym refused ∙ sym (answer_unaccepted m c.args.left c.args.command.now
    (refused_unaccepted m c.args.command.now c.in-Err.refusal refused))
