use Rattle.std.proofs.Common.{List, ap, ◌∙◌}
use Rattle.im_types.specs.Types.{Command}
use Rattle.im_engine.specs.Commands.{each_refused}

pub returns : Rattle.im_engine.proofs.ahead.GroupAhead.refuse.Goals.returns
returns c = c.refuse_all.ensures ∙ ap (λ (l : List Command). each_refused c.args.refusal l) c.as_slice.ensures.value
