use Rattle.std.proofs.Common.{ℕ, sym, subst, rules}
use Rattle.im_types.specs.Types.{Confirm, Commands}
use Rattle.im_controller.specs.{Log.plain, State.PortState}
use Rattle.im_serving.proofs.{AnswerLemmas.receipt_longer, CallsLemmas.makes_after, CallsLemmas.makes_again}
use mathlib.Core.List.{IsPrefix}
use Rattle.im_serving.proofs.asking.confirm.Goals as goal

pub loop-preserved : goal.loop-preserved
loop-preserved g c =
    let s = c.confirm in (
      search rules,
      search rules,
      search rules,
      subst (λ (p : PortState). IsPrefix c.args.port.now.history p.history) (sym c.help.ensures.same)
          (receipt_longer c.args.port.now.history c.loop.port.history s.new.self.history _ s.result c.loop.invariant.3
          s.ensures.order),
      makes_again g.K.Name.origin.marks (λ (e : ℕ). Commands (Confirm e c.args.upto)) (plain s.result)
          c.args.port.now c.loop.port s.new.self c.help.new.port c.help.ensures.same c.loop.invariant.2
          c.loop.invariant.4 s.ensures.counts,
    )

pub returns-in-Ok-clause-alone : goal.returns-in-Ok-clause-alone
returns-in-Ok-clause-alone g c =
    makes_after g.K.Name.origin.marks (λ (e : ℕ). Commands (Confirm e c.args.upto)) (plain c.confirm.result)
    c.args.port.now c.loop.port c.confirm.new.self c.loop.invariant.2 c.loop.invariant.4 c.confirm.ensures.counts

pub returns-in-Err-help-clause-alone : goal.returns-in-Err-help-clause-alone
returns-in-Err-help-clause-alone g c =
    makes_again g.K.Name.origin.marks (λ (e : ℕ). Commands (Confirm e c.args.upto)) (plain c.confirm.result)
    c.args.port.now c.loop.port c.confirm.new.self c.help.new.port c.help.ensures.same c.loop.invariant.2
    c.loop.invariant.4 c.confirm.ensures.counts
