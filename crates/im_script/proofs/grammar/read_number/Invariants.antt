use Rattle.std.proofs.Common.{◌≡◌, drop}
use Rattle.im_script.proofs.NumberLemmas.{number_past}

abbrev pub invariant-loop-digit : Rattle.im_script.proofs.grammar.read_number.Given.invariant-loop-digit
invariant-loop-digit l = number_past l.most l.number (drop l.digit-index l.text) ≡ number_past l.most 0 l.text
