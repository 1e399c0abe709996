use Rattle.std.proofs.Common.{true, false, sym, ◌∙◌}
use Rattle.im_image.proofs.Headers.{place_spells}
use Rattle.im_image.proofs.in_force.read_in_force.Goals as goal

pub returns-then-is_second-clause-only : goal.returns-then-is_second-clause-only
returns-then-is_second-clause-only c =
    let is =
    place_spells c.args.zero.now c.args.one.now c.is_second.result true c.is_second.ensures c.if-is_second.true in
    (λ some. is ∙ c.read.ensures.only.0 some, λ spelled. c.read.ensures.only.1 (sym is ∙ spelled))

pub returns-else-is_second-clause-only : goal.returns-else-is_second-clause-only
returns-else-is_second-clause-only c =
    let is =
    place_spells c.args.zero.now c.args.one.now c.is_second.result false c.is_second.ensures c.if-is_second.false in (
      λ some. is ∙ c.read-else-is_second.ensures.only.0 some,
      λ spelled. c.read-else-is_second.ensures.only.1
          (sym is ∙ spelled),
    )
