use Rattle.std.proofs.Common.{◌||◌, List, sym, ap, ◌∙◌}
use Rattle.std.specs.List.{list_any}
use Rattle.im_types.specs.Types.{Command}
use Rattle.im_groups.{proofs.LineLemmas.any-append, specs.Ahead.asks_at_once}

pub returns : Rattle.im_groups.proofs.line.CommandsAhead.ask_at_once.Goals.returns
returns c =
    (λ i. (c.is_asked_at_once-in_group.ensures i) || (c.is_asked_at_once-in_members.ensures i))
    ∙ sym (any-append (asks_at_once (record { element = c.args.element; number = c.args.number }))
    c.self.inside.group.now c.self.inside.members.now)
    ∙ ap (λ (l : List Command). list_any (asks_at_once
    (record { element = c.args.element; number = c.args.number })) l) c.self.view_is
