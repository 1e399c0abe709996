use Rattle.std.{proofs.Common.◌≡◌, proofs.Common.drop, specs.List.list_any}
use Rattle.im_dialogue.specs.Firsts.{may_reach}

abbrev pub invariant-loop-command : Rattle.im_dialogue.proofs.firsts.is_reached.Given.invariant-loop-command
invariant-loop-command l = list_any (may_reach l.a) (drop l.command-index l.ahead) ≡ list_any (may_reach l.a) l.ahead
