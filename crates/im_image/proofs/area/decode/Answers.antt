use Rattle.im_types.specs.Types.{sizes_of}
use Rattle.im_image.proofs.Restored.{shows-none}

pub returns-in-Ok-clause-bad : Rattle.im_image.proofs.area.decode.Goals.returns-in-Ok-clause-bad
returns-in-Ok-clause-bad c = λ e.
    shows-none c.args.version
    (sizes_of c.args.limits) c.args.area.now c.in-Ok.records c.args.limits.in_range c.in-Ok.ensures.found
    (c.show.ensures.bad e)
