use Rattle.std.proofs.Common.{◌≡◌, ℕ, ◌-◌, ◌≤◌, min, Bool, List, ap, ◌∙◌, subst, arith}
use Rattle.std.proofs.lemmas.List.{with_items_is}
use Rattle.im_pages.proofs.RangeLemmas.{has_more, HasMore, IsSetBetween, none-set, pages-set}
use Rattle.im_pages.specs.{PageSets.with_pages, Words.bits_of}
use Rattle.im_pages.proofs.sets.PageSet.add_range.Goals as goal

-- after the bits of the pages are set
more : (kept items slice new : List ℕ) (pages from to last : ℕ) (self : List Bool) → kept ≡ new → slice ≡ items
    → last ≡ min to pages → IsSetBetween slice new from last → bits_of items pages ≡ self
    → HasMore self (bits_of kept pages) from to
more kept items slice new pages from to last self is same least done view =
    has_more self (bits_of kept pages) from to
    (ap (λ (l : List ℕ). bits_of l pages) is
    ∙ pages-set items new pages from to
    (subst (λ (n : ℕ). IsSetBetween items new from n) least
    (subst (λ (l : List ℕ). IsSetBetween l new from last) same done))
    ∙ ap (λ (s : List Bool). with_pages s from (to - from)) view)

-- where there are no such pages
none : (items : List ℕ) (pages from to : ℕ) (self : List Bool) → min to pages ≤ from → bits_of items pages ≡ self
    → HasMore self self from to
none items pages from to self le view = has_more self self from to
    (subst (λ (s : List Bool). s ≡ with_pages s from (to - from)) view (none-set items pages from to le))

pub returns-then-from-last-clause-state : goal.returns-then-from-last-clause-state
returns-then-from-last-clause-state c =
    (more _ c.self.inside.words.items c.as_mut_slice.result.now c.set_range.new.words c.self.inside.pages c.args.from c.args.to c.min-last.result c.args.self.now
    (with_items_is c.self.inside.words c.set_range.new.words
    (omega (arith, c.set_range.auto.words, c.as_mut_slice.ensures.len))) c.as_mut_slice.ensures.value
    (omega (arith, c.min-last.ensures))
    (record { found = c.set_range.ensures.found; others = c.set_range.ensures.others }) c.self.view_is).state

pub returns-then-from-last-clause-length : goal.returns-then-from-last-clause-length
returns-then-from-last-clause-length c =
    (more _ c.self.inside.words.items c.as_mut_slice.result.now c.set_range.new.words c.self.inside.pages c.args.from c.args.to c.min-last.result c.args.self.now
    (with_items_is c.self.inside.words c.set_range.new.words
    (omega (arith, c.set_range.auto.words, c.as_mut_slice.ensures.len))) c.as_mut_slice.ensures.value
    (omega (arith, c.min-last.ensures))
    (record { found = c.set_range.ensures.found; others = c.set_range.ensures.others }) c.self.view_is).long

pub returns-then-from-last-clause-found : goal.returns-then-from-last-clause-found
returns-then-from-last-clause-found c =
    (more _ c.self.inside.words.items c.as_mut_slice.result.now c.set_range.new.words c.self.inside.pages c.args.from c.args.to c.min-last.result c.args.self.now
    (with_items_is c.self.inside.words c.set_range.new.words
    (omega (arith, c.set_range.auto.words, c.as_mut_slice.ensures.len))) c.as_mut_slice.ensures.value
    (omega (arith, c.min-last.ensures))
    (record { found = c.set_range.ensures.found; others = c.set_range.ensures.others }) c.self.view_is).found

pub returns-then-from-last-clause-kept : goal.returns-then-from-last-clause-kept
returns-then-from-last-clause-kept c =
    (more _ c.self.inside.words.items c.as_mut_slice.result.now c.set_range.new.words c.self.inside.pages c.args.from c.args.to c.min-last.result c.args.self.now
    (with_items_is c.self.inside.words c.set_range.new.words
    (omega (arith, c.set_range.auto.words, c.as_mut_slice.ensures.len))) c.as_mut_slice.ensures.value
    (omega (arith, c.min-last.ensures))
    (record { found = c.set_range.ensures.found; others = c.set_range.ensures.others }) c.self.view_is).kept

pub returns-then-from-last-clause-few : goal.returns-then-from-last-clause-few
returns-then-from-last-clause-few c =
    (more _ c.self.inside.words.items c.as_mut_slice.result.now c.set_range.new.words c.self.inside.pages c.args.from c.args.to c.min-last.result c.args.self.now
    (with_items_is c.self.inside.words c.set_range.new.words
    (omega (arith, c.set_range.auto.words, c.as_mut_slice.ensures.len))) c.as_mut_slice.ensures.value
    (omega (arith, c.min-last.ensures))
    (record { found = c.set_range.ensures.found; others = c.set_range.ensures.others }) c.self.view_is).few

pub returns-else-from-last-clause-state : goal.returns-else-from-last-clause-state
returns-else-from-last-clause-state c =
    (none c.self.inside.words.items c.self.inside.pages c.args.from c.args.to c.args.self.now
    (omega (arith, c.if-from-last.false, c.min-last.ensures)) c.self.view_is).state

pub returns-else-from-last-clause-found : goal.returns-else-from-last-clause-found
returns-else-from-last-clause-found c =
    (none c.self.inside.words.items c.self.inside.pages c.args.from c.args.to c.args.self.now
    (omega (arith, c.if-from-last.false, c.min-last.ensures)) c.self.view_is).found
