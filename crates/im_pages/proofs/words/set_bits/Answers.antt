use Rattle.std.proofs.Common.{◌≡◌, get_or, bit_or, sym, ap, ◌∙◌, ⊎_elim, arith}
use Rattle.std.proofs.lemmas.{Bool.cases_lt, List.get_or_past}
use Rattle.im_pages.proofs.BitLemmas.{bits-set}

pub returns : Rattle.im_pages.proofs.words.set_bits.Goals.returns
returns c = bits-set c.loop-at.words c.args.words.now c.args.other.now (λ k. ⊎_elim
    (λ low. c.loop-at.invariant.done k low)
    (λ high.
    let a : get_or c.args.words.now k 0
    ≡ 0 = get_or_past c.args.words.now k 0 (omega (arith, high, c.loop-at-test.false)) in
    let b : get_or c.args.other.now k 0
    ≡ 0 = get_or_past c.args.other.now k 0 (omega (arith, high, c.loop-at-test.false, c.requires)) in
    c.loop-at.invariant.rest k high ∙ a
    ∙ sym (ap (λ x. bit_or x (get_or c.args.other.now k 0)) a ∙ ap (λ y. bit_or 0 y) b))
    (cases_lt k c.loop-at.at))
