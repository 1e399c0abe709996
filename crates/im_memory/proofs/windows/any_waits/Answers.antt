use Rattle.std.proofs.Common.{◌+◌, ◌-◌, true, false, take, drop, sym, ap, ◌∙◌, arith}
use Rattle.std.specs.List.{list_any}
use Rattle.im_types.specs.Types.{is_waiting}
use Rattle.im_memory.proofs.ConfirmLemmas.{waits-step}
use Rattle.im_memory.proofs.windows.any_waits.Goals as goal

pub returns-then-waits : goal.returns-then-waits
returns-then-waits c = λ w at base.
    sym (c.loop-number.invariant w at base
    ∙ ap (λ b. list_any is_waiting
    (take (c.args.upto - c.loop-number.number) (drop (c.loop-number.number - b) w.kept))) (sym base)
    ∙ waits-step c.args.sessions.now w (record { element = c.args.element; number = c.loop-number.number }) at
    (omega arith) c.args.upto (omega arith) true (sym c.if-waits.true ∙ c.waits.ensures))

pub loop-number-preserved : goal.loop-number-preserved
loop-number-preserved c = λ w at base.
    c.loop-number.invariant w at base
    ∙ ap (λ b. list_any is_waiting
    (take (c.args.upto - c.loop-number.number) (drop (c.loop-number.number - b) w.kept))) (sym base)
    ∙ waits-step c.args.sessions.now w (record { element = c.args.element; number = c.loop-number.number }) at
    (omega arith) c.args.upto (omega arith) false (sym c.if-waits.false ∙ c.waits.ensures)
    ∙ ap (λ b. list_any is_waiting
    (take (c.args.upto - (c.loop-number.number + 1)) (drop (c.loop-number.number + 1 - b) w.kept))) base
