use Rattle.std.proofs.Common.{ℕ, List, length, ◌==◌, sym, ap, ◌∙◌, length-append}
use Rattle.im_types.specs.Types.{Command}

pub returns : Rattle.im_groups.proofs.line.CommandsAhead.is_empty.Goals.returns
returns c = ap (λ (n : ℕ). n == 0) (sym (length-append c.self.inside.group.now c.self.inside.members.now))
    ∙ ap (λ (l : List Command). length l == 0) c.self.view_is
