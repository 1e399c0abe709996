use Rattle.std.proofs.Common.{◌≡◌, ℕ, ◌<◌, Bool, true, List, length, sym, ap, ◌∙◌, arith}
use Rattle.im_pages.proofs.BitLemmas.{length-bits, read}
use Rattle.im_pages.specs.{PageSets.has, Words.bits_of, Words.is_set}
use Rattle.im_pages.proofs.sets.PageSet.next_from.Goals as goal

at_bit : (items slice : List ℕ) (pages : ℕ) (self : List Bool) → slice ≡ items → bits_of items pages ≡ self → (p : ℕ)
    → p < length self → has self p ≡ is_set slice p
at_bit items slice pages self same view p lt =
    ap (λ (s : List Bool). has s p) (sym view)
    ∙ read items pages p true (omega (arith, lt, ap length view, length-bits items 0 pages))
    ∙ ap (λ (l : List ℕ). is_set l p) (sym same)

pub returns-then-page-self : goal.returns-then-page-self
returns-then-page-self c = λ p low high.
    let e = c.self.inside in
    absurd (omega (arith, high, c.if-page-self.true, ap length c.self.view_is, length-bits e.words.items 0 e.pages))

pub returns-in_default : goal.returns-in_default
returns-in_default c = λ p low high.
    let e = c.self.inside in
    at_bit e.words.items c.as_slice.result.now e.pages c.args.self.now c.as_slice.ensures.value c.self.view_is p high
    ∙ c.in_default.ensures p low
    (omega (arith, high, c.self.invariant.packed, ap length c.as_slice.ensures.value, ap length c.self.view_is, length-bits e.words.items 0 e.pages))

pub returns-then-found-self : goal.returns-then-found-self
returns-then-found-self c =
    let e = c.self.inside in
    let inside : c.in-Some.found < length c.args.self.now = omega
    (arith, c.if-found-self.true, ap length c.self.view_is, length-bits e.words.items 0 e.pages) in
    record {
      from = c.in-Some.ensures.behind;
      inside = inside;
      there = at_bit e.words.items c.as_slice.result.now e.pages c.args.self.now c.as_slice.ensures.value c.self.view_is c.in-Some.found inside ∙ c.in-Some.ensures.set;
      between = λ p low high.
          at_bit e.words.items c.as_slice.result.now e.pages c.args.self.now c.as_slice.ensures.value c.self.view_is p (omega (arith, inside, high)) ∙ c.in-Some.ensures.clear p low high;
    }

pub returns-else-found-self : goal.returns-else-found-self
returns-else-found-self c = λ p low high.
    let e = c.self.inside in
    at_bit e.words.items c.as_slice.result.now e.pages c.args.self.now c.as_slice.ensures.value c.self.view_is p high
    ∙ c.in-Some.ensures.clear p low
    (omega (arith, high, c.if-found-self.false, ap length c.self.view_is, length-bits e.words.items 0 e.pages))
