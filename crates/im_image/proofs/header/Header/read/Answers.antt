use Rattle.std.proofs.Common.{sym, refl, ◌∙◌}
use Rattle.im_types.proofs.Tests.{false_true}
use Rattle.im_image.proofs.Headers.{limits_of_spelled, no_some, spelled_is}
use Rattle.im_image.specs.Headers.{seen}
use Rattle.im_image.proofs.header.Header.read.Goals as goal

pub returns-in_err-limits_in-clause-only : goal.returns-in_err-limits_in-clause-only
returns-in_err-limits_in-clause-only c = (
  λ is. absurd (no_some c.from_residual.result c.from_residual.ensures is),
  λ spelled. absurd (false_true
      (c.in_err-limits_in.ensures.only (limits_of_spelled c.args.area c.args.bytes.now spelled))),
)

pub returns-then-is_spelled-clause-only : goal.returns-then-is_spelled-clause-only
returns-then-is_spelled-clause-only c =
    let is = spelled_is c.args.area c.args.bytes.now
    (seen c.with_limits-header.result) c.is_spelled.result c.with_limits-header.ensures c.is_spelled.ensures.is in
    (λ some. sym is ∙ c.if-is_spelled.true, λ spelled. refl)

pub returns-else-is_spelled-clause-only : goal.returns-else-is_spelled-clause-only
returns-else-is_spelled-clause-only c =
    let is = spelled_is c.args.area c.args.bytes.now
    (seen c.with_limits-header.result) c.is_spelled.result c.with_limits-header.ensures c.is_spelled.ensures.is in
    (λ none. absurd (false_true none), λ spelled. sym c.if-is_spelled.false ∙ is ∙ spelled)
