use Rattle.std.proofs.Common.{subst}
use Rattle.im_dump.specs.Dumping.{IsDumpOf}

pub returns-in-Ok : Rattle.im_program.proofs.loading.read_loaded.Goals.returns-in-Ok
returns-in-Ok g c = (
  c.in_ok-text.text.items,
  c.in_ok-text.ensures,
  subst (IsDumpOf c.in-Ok.loaded) c.as_slice.ensures.value c.in-Ok.ensures.found,
)
