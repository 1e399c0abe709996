use Rattle.std.proofs.Common.{◌≡◌, ℕ, ◌+◌, ◌/◌, ◌||◌, List, length, sym, ap, ◌∙◌, arith}
use Rattle.std.proofs.lemmas.List.{with_items_is}
use Rattle.im_pages.proofs.{BitLemmas.length-bits, SetLemmas.union-set}
use Rattle.im_pages.specs.{PageSets.union, Words.bits_of, Words.is_set}
use Rattle.im_pages.proofs.sets.PageSet.union_with.Goals as goal

pub set_bits-requires : goal.set_bits-requires
set_bits-requires c =
    let a = c.self.inside in
    let b = c.other.inside in
    let mine : a.pages ≡ length c.args.self.now = sym (length-bits a.words.items 0 a.pages)
    ∙ ap length c.self.view_is in
    let its : b.pages ≡ length c.args.other.now = sym (length-bits b.words.items 0 b.pages)
    ∙ ap length c.other.view_is in
    let pages : a.pages ≡ b.pages = mine ∙ c.requires ∙ sym its in
    ap length c.as_mut_slice.ensures.value ∙ c.self.invariant.packed ∙ ap (λ n. (n + 63) / 64) pages
    ∙ sym c.other.invariant.packed ∙ sym (ap length c.as_slice.ensures.value)

pub returns : goal.returns
returns c =
    let a = c.self.inside in
    let b = c.other.inside in
    let mine : a.pages ≡ length c.args.self.now = sym (length-bits a.words.items 0 a.pages)
    ∙ ap length c.self.view_is in
    let its : b.pages ≡ length c.args.other.now = sym (length-bits b.words.items 0 b.pages)
    ∙ ap length c.other.view_is in
    let pages : a.pages ≡ b.pages = mine ∙ c.requires ∙ sym its in
    ap (λ (l : List ℕ). bits_of l a.pages)
    (with_items_is a.words c.set_bits.new.words (omega (arith, c.set_bits.auto.words, c.as_mut_slice.ensures.len)))
    ∙ union-set a.words.items b.words.items c.set_bits.new.words a.pages
    (λ bit. c.set_bits.ensures bit
    ∙ ap (λ (l : List ℕ). is_set l bit || is_set c.as_slice.result.now bit) c.as_mut_slice.ensures.value
    ∙ ap (λ (l : List ℕ). is_set a.words.items bit || is_set l bit) c.as_slice.ensures.value)
    ∙ ap (λ x. union x (bits_of b.words.items a.pages)) c.self.view_is
    ∙ ap (λ x. union c.args.self.now x) (ap (λ n. bits_of b.words.items n) pages ∙ c.other.view_is)
