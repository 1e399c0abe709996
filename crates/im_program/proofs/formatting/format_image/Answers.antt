use Rattle.std.proofs.Common.{sym, refl}

pub returns-clause-made : Rattle.im_program.proofs.formatting.format_image.Goals.returns-clause-made
returns-clause-made g c = λ honest.
    let is = c.in_ok-limits.ensures.limits in (
      refl,
      c.in_ok-limits.ensures.found,
      rw (sym is.0) (rw (sym is.1) (rw (sym is.2) (c.in_ok-disk.ensures.made honest))),
    )
