use Rattle.std.proofs.Common.{◌≡◌, ℕ, Bool, true, ◌||◌, List, length, set, ◌==◌, sym, ap, ◌∙◌, subst, arith, length-set}
use Rattle.std.proofs.lemmas.List.{get_or_past, set_past, with_items_is}
use Rattle.std.specs.Vec.{with_items}
use Rattle.im_pages.proofs.BitLemmas.{length-bits, set-one}
use Rattle.im_pages.proofs.SetLemmas.{has-with, size-with, within-with}
use Rattle.im_pages.specs.{PageSets.has, PageSets.size_of, PageSets.with_page, Words.bits_of, Words.is_set}
use Rattle.im_pages.proofs.sets.PageSet.add.Goals as goal

-- the bits after one more is set
with_bit : (kept items slice new : List ℕ) (pages page : ℕ) (self : List Bool) → kept ≡ new → slice ≡ items
    → ((bit : ℕ) → is_set new bit ≡ (bit == page || is_set slice bit)) → bits_of items pages ≡ self
    → bits_of kept pages ≡ with_page self page
with_bit kept items slice new pages page self is same each view =
    ap (λ (l : List ℕ). bits_of l pages) is
    ∙ set-one items new pages page
    (subst (λ (l : List ℕ). (bit : ℕ) → is_set new bit ≡ (bit == page || is_set l bit)) same each)
    ∙ ap (λ (s : List Bool). set s page true) view

pub returns-then-page-self-clause-state : goal.returns-then-page-self-clause-state
returns-then-page-self-clause-state c =
    let long : length c.set_bit.new.words
    ≡ c.self.inside.words.len = omega (arith, c.set_bit.auto.words, c.as_mut_slice.ensures.len) in
    let state : bits_of (with_items c.self.inside.words c.set_bit.new.words).items c.self.inside.pages
    ≡ with_page c.args.self.now c.args.page =
    with_bit _ c.self.inside.words.items c.as_mut_slice.result.now c.set_bit.new.words c.self.inside.pages c.args.page c.args.self.now (with_items_is c.self.inside.words c.set_bit.new.words long) c.as_mut_slice.ensures.value
    c.set_bit.ensures c.self.view_is in
    state

pub returns-then-page-self-clause-length : goal.returns-then-page-self-clause-length
returns-then-page-self-clause-length c =
    let long : length c.set_bit.new.words
    ≡ c.self.inside.words.len = omega (arith, c.set_bit.auto.words, c.as_mut_slice.ensures.len) in
    let state : bits_of (with_items c.self.inside.words c.set_bit.new.words).items c.self.inside.pages
    ≡ with_page c.args.self.now c.args.page =
    with_bit _ c.self.inside.words.items c.as_mut_slice.result.now c.set_bit.new.words c.self.inside.pages c.args.page c.args.self.now (with_items_is c.self.inside.words c.set_bit.new.words long) c.as_mut_slice.ensures.value
    c.set_bit.ensures c.self.view_is in
    ap length state ∙ length-set c.args.self.now c.args.page true

pub returns-then-page-self-clause-found : goal.returns-then-page-self-clause-found
returns-then-page-self-clause-found c =
    let long : length c.set_bit.new.words
    ≡ c.self.inside.words.len = omega (arith, c.set_bit.auto.words, c.as_mut_slice.ensures.len) in
    let state : bits_of (with_items c.self.inside.words c.set_bit.new.words).items c.self.inside.pages
    ≡ with_page c.args.self.now c.args.page =
    with_bit _ c.self.inside.words.items c.as_mut_slice.result.now c.set_bit.new.words c.self.inside.pages c.args.page c.args.self.now (with_items_is c.self.inside.words c.set_bit.new.words long) c.as_mut_slice.ensures.value
    c.set_bit.ensures c.self.view_is in
    ap (λ (s : List Bool). has s c.args.page) state ∙ has-with c.args.self.now c.args.page

pub returns-then-page-self-clause-kept : goal.returns-then-page-self-clause-kept
returns-then-page-self-clause-kept c = λ p there.
    let long : length c.set_bit.new.words
    ≡ c.self.inside.words.len = omega (arith, c.set_bit.auto.words, c.as_mut_slice.ensures.len) in
    let state : bits_of (with_items c.self.inside.words c.set_bit.new.words).items c.self.inside.pages
    ≡ with_page c.args.self.now c.args.page =
    with_bit _ c.self.inside.words.items c.as_mut_slice.result.now c.set_bit.new.words c.self.inside.pages c.args.page c.args.self.now (with_items_is c.self.inside.words c.set_bit.new.words long) c.as_mut_slice.ensures.value
    c.set_bit.ensures c.self.view_is in
    ap (λ (s : List Bool). has s p) state ∙ within-with c.args.self.now c.args.page p there

pub returns-then-page-self-clause-few : goal.returns-then-page-self-clause-few
returns-then-page-self-clause-few c =
    let long : length c.set_bit.new.words
    ≡ c.self.inside.words.len = omega (arith, c.set_bit.auto.words, c.as_mut_slice.ensures.len) in
    let state : bits_of (with_items c.self.inside.words c.set_bit.new.words).items c.self.inside.pages
    ≡ with_page c.args.self.now c.args.page =
    with_bit _ c.self.inside.words.items c.as_mut_slice.result.now c.set_bit.new.words c.self.inside.pages c.args.page c.args.self.now (with_items_is c.self.inside.words c.set_bit.new.words long) c.as_mut_slice.ensures.value
    c.set_bit.ensures c.self.view_is in
    omega (arith, ap size_of state, size-with c.args.self.now c.args.page)

pub returns-else-page-self-clause-state : goal.returns-else-page-self-clause-state
returns-else-page-self-clause-state c =
    let e = c.self.inside in
    sym (set_past c.args.self.now c.args.page true
    (omega (arith, ap length c.self.view_is, length-bits e.words.items 0 e.pages)))

pub returns-else-page-self-clause-found : goal.returns-else-page-self-clause-found
returns-else-page-self-clause-found c =
    let e = c.self.inside in
    get_or_past c.args.self.now c.args.page true
    (omega (arith, ap length c.self.view_is, length-bits e.words.items 0 e.pages))
