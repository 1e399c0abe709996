use Rattle.std.proofs.Common.{List, length, ap}
use Rattle.im_types.specs.Types.{Command}

pub returns : Rattle.im_engine.proofs.ahead.GroupAhead.many.Goals.returns
returns c = ap (λ (l : List Command). length l) c.as_slice.ensures.value
