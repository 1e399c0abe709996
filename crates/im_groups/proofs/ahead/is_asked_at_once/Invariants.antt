use Rattle.std.{proofs.Common.◌≡◌, proofs.Common.drop, specs.List.list_any}
use Rattle.im_groups.specs.Ahead.{asks_at_once}

abbrev pub invariant-loop-command : Rattle.im_groups.proofs.ahead.is_asked_at_once.Given.invariant-loop-command
invariant-loop-command l = list_any (asks_at_once (record { element = l.element; number = l.number })) (drop
    l.command-index l.ahead)
    ≡ list_any (asks_at_once (record { element = l.element; number = l.number })) l.ahead
