use Rattle.std.proofs.Common.{◌≡◌, get_or, None, sym, ◌∙◌, arith, rules}
use Rattle.im_script.{proofs.NumberLemmas.number_stops, specs.Grammar.digit_after}

pub returns-in_err-number : Rattle.im_script.proofs.grammar.read_number.Goals.returns-in_err-number
returns-in_err-number c =
    let none : digit_after c.loop-digit.number (get_or c.args.text.now c.loop-digit.digit-index 0)
    ≡ None = search rules in
    search rules ∙ sym (number_stops c.args.most c.loop-digit.number c.loop-digit.digit-index c.args.text.now
    (omega arith) (omega arith) c.loop-digit.invariant none)
