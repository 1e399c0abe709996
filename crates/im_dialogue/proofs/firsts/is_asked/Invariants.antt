use Rattle.std.{proofs.Common.◌≡◌, proofs.Common.drop, specs.List.list_any}
use Rattle.im_dialogue.specs.Firsts.{asks_for}

abbrev pub invariant-loop-command : Rattle.im_dialogue.proofs.firsts.is_asked.Given.invariant-loop-command
invariant-loop-command l = list_any (asks_for l.who) (drop l.command-index l.ahead) ≡ list_any (asks_for l.who) l.ahead
