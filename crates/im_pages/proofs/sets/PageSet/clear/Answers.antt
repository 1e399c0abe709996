use Rattle.std.proofs.Common.{◌≡◌, ℕ, false, List, length, replicate, sym, ap, ◌∙◌, arith}
use Rattle.std.proofs.lemmas.List.{with_items_is}
use Rattle.im_pages.{proofs.BitLemmas.length-bits, proofs.BitLemmas.set-none, specs.Words.bits_of}

pub returns : Rattle.im_pages.proofs.sets.PageSet.clear.Goals.returns
returns c =
    let e = c.self.inside in
    let long : e.pages ≡ length c.args.self.now = sym (length-bits e.words.items 0 e.pages)
    ∙ ap length c.self.view_is in
    ap (λ (l : List ℕ). bits_of l e.pages)
    (with_items_is e.words c.fill_words.new.words
    (omega (arith, c.fill_words.auto.words, c.as_mut_slice.ensures.len)) ∙ c.fill_words.ensures)
    ∙ set-none (length c.as_mut_slice.result.now) e.pages
    (omega (arith, c.self.invariant.packed, ap length c.as_mut_slice.ensures.value))
    ∙ ap (λ (n : ℕ). replicate n false) long
