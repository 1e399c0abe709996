-- The lines of windows, cut off one after another. (Own.)
use Rattle.std.proofs.Common.{◌≡◌, ℕ, ◌+◌, ◌-◌, ◌^◌, ◌<◌, ◌≤◌, Bool, true, false, ◌&&◌, List, [], ◌∷◌, ◌++◌, length}
use Rattle.std.proofs.Common.{if◌then◌else◌, ◌==◌, slice_get, Some, None, codes, decimal, Option, sym, refl, ap, ◌∙◌}
use Rattle.std.proofs.Common.{subst, ap₂, inl, inr, append_assoc, arith, eqb-true}
use Rattle.std.proofs.lemmas.Bool.{and_parts, cases_Bool, cases_lt, eqb-false}
use Rattle.std.proofs.lemmas.{List.append_cancel_left, Option.slice_get_past}
use Rattle.im_types.specs.Types.{Entry, Op, Kept, LAST, Window, IsWindow, FitsPlace}
use Rattle.im_records.specs.Entries.{FitEntries}
use Rattle.im_text.specs.Texts.{entry_text, op_text, texts_below}
use Rattle.im_dump.proofs.Cuts.{entry_cut, field_cut, number_then, op_cut, third}
use Rattle.im_dump.proofs.Steps.{below_is, below_more, in_step, lists_by_get, texts_from}
use Rattle.im_dump.specs.Dump.{base_line, kept_entry, kept_lines, window_lines}

-- ---- entries

-- a line of the entry with this number, from behind its start on
abbrev pub at_entry : ℕ → ℕ → List ℕ → List ℕ
at_entry e n x = codes "entry " ++ (decimal e ++ (46 ∷ (decimal n ++ (32 ∷ x))))

-- no line of an entry begins a text
abbrev pub NoEntries : List ℕ → Type 0
NoEntries t = (x : List ℕ) → t ≡ codes "entry " ++ x → ⊥

-- no line of the entry with this number does
abbrev NoEntry : ℕ → ℕ → List ℕ → Type 0
NoEntry e n t = (x : List ℕ) → t ≡ at_entry e n x → ⊥

entry_cut_at : (e n k : ℕ) (x y : List ℕ) → e < 2 ^ 64 → n < 2 ^ 64 → k < 2 ^ 64 → at_entry e n x ≡ at_entry e k y
    → (n ≡ k) × (x ≡ y)
entry_cut_at e n k x y i j l same =
    let first : (e ≡ e) × (decimal n ++ (32 ∷ x) ≡ decimal k ++ (32 ∷ y)) =
    number_then e e 46 (decimal n ++ (32 ∷ x)) (decimal k ++ (32 ∷ y)) i i (omega arith) (append_cancel_left (codes
    "entry ") (decimal e ++ (46 ∷ (decimal n ++ (32 ∷ x)))) (decimal e ++ (46 ∷ (decimal k ++ (32 ∷ y)))) same) in
    number_then n k 32 x y j l (omega arith) first.1

kept_is : (e n : ℕ) (k : Kept) (t : List ℕ) → kept_entry e n (Some k) ++ t
    ≡ at_entry e n (op_text k.op ++ (32 ∷ (codes "-> " ++ (entry_text k.entry ++ (10 ∷ t)))))
kept_is e n k t = simp append_assoc

later_kept : (e n k : ℕ) (kept : Option Kept) (t : List ℕ) → e < 2 ^ 64 → n < 2 ^ 64 → k < n → NoEntry e k t
    → NoEntry e k (kept_entry e n kept ++ t)
later_kept e n k None t i j lt h = h
later_kept e n k (Some kept) t i j lt h = λ x same.
    let number : n ≡ k = (entry_cut_at e n k _ x i j (omega arith) (sym (kept_is e n kept t) ∙ same)).0 in
    (omega arith)

some_kept : (k l : Kept) → k.op ≡ l.op → k.entry ≡ l.entry → Some k ≡ Some l
some_kept k l p q = ap₂ (λ (o : Op) (e : Entry). Some (record { op = o; entry = e })) p q

kept_cut : (e n : ℕ) (k l : Option Kept) (t u : List ℕ) → e < 2 ^ 64 → n < 2 ^ 64 → FitsPlace k → FitsPlace l
    → NoEntry e n t → NoEntry e n u
    → kept_entry e n k ++ t ≡ kept_entry e n l ++ u → (k ≡ l) × (t ≡ u)
kept_cut e n None None t u i j p q clear none same = (refl, same)
kept_cut e n None (Some l) t u i j p q clear none same = absurd (clear _ (same ∙ kept_is e n l u))
kept_cut e n (Some k) None t u i j p q clear none same = absurd (none _ (sym same ∙ kept_is e n k t))
kept_cut e n (Some k) (Some l) t u i j p q clear none same =
    let line : op_text k.op ++ (32 ∷ (codes "-> " ++ (entry_text k.entry ++ (10 ∷ t))))
    ≡ op_text l.op ++ (32 ∷ (codes "-> " ++ (entry_text l.entry ++ (10 ∷ u)))) =
    (entry_cut_at e n n _ _ i j j (sym (kept_is e n k t) ∙ same ∙ kept_is e n l u)).1 in
    let ops : (k.op ≡ l.op) × (codes "-> " ++ (entry_text k.entry ++ (10 ∷ t))
    ≡ codes "-> " ++ (entry_text l.entry ++ (10 ∷ u))) = op_cut k.op l.op _ _ p.0 q.0 line in
    let entries : (k.entry ≡ l.entry) × (t ≡ u) = entry_cut k.entry l.entry t u p.1 q.1 (append_cancel_left (codes "-> ") (entry_text k.entry ++ (10 ∷ t)) (entry_text l.entry ++ (10 ∷ u)) ops.1) in
    (some_kept k l ops.0 entries.0, entries.1)

-- ---- the entries of a window

-- the line of the entry with this place in a window
abbrev kept_text : ℕ → ℕ → List Kept → ℕ → List ℕ
kept_text e base kept i = kept_entry e (base + i) (slice_get kept i)

place_fits : (kept : List Kept) (i : ℕ) → FitEntries kept → FitsPlace (slice_get kept i)
place_fits kept i fits = by_cases (slice_get kept i) (λ k is. fits i k is)
  where
    by_cases : (k : Option Kept) → ((x : Kept) → k ≡ Some x → FitsPlace (Some x)) → FitsPlace k
    by_cases None h = tt
    by_cases (Some k) h = h k refl

-- all entries, and no text past them
all_kept : (e base : ℕ) (kept : List Kept) → length kept ≤ 64 → texts_below (kept_text e base kept) (length kept)
    ≡ texts_from (kept_text e base kept) 0 64
all_kept e base kept few =
    let size : length kept + (64 - length kept) ≡ 64 = omega arith in
    sym (below_more (64 - length kept) (length kept) (kept_text e base kept) (λ i past. ap (kept_entry e (base + i))
    (slice_get_past kept i past)))
    ∙ ap (texts_below (kept_text e base kept)) size ∙ below_is (kept_text e base kept) 64

entries_cut : (e base : ℕ) (kept other : List Kept) (t u : List ℕ) → e < 2 ^ 64 → base ≤ 2 ^ 63 → length kept ≤ 64
    → length other ≤ 64
    → FitEntries kept → FitEntries other → NoEntries t → NoEntries u
    → texts_below (kept_text e base kept) (length kept) ++ t ≡ texts_below (kept_text e base other) (length other) ++ u
    → (kept ≡ other) × (t ≡ u)
entries_cut e base kept other t u i j few less p q clear none same =
    let steps : ((k : ℕ) → k < 64 → slice_get kept k ≡ slice_get other k) × (t ≡ u) =
    in_step (kept_text e base kept) (kept_text e base other) (λ k. NoEntry e (base + k)) (λ k. slice_get kept k
    ≡ slice_get other k) 64
    (λ a k t lt end h. later_kept e (base + a) (base + k) (slice_get kept a) t i (omega arith) (omega arith) h)
    (λ a k t lt end h. later_kept e (base + a) (base + k) (slice_get other a) t i (omega arith) (omega arith) h)
    (λ k t u lt below h g is. kept_cut e (base + k) (slice_get kept k) (slice_get other k) t u i (omega arith)
    (place_fits kept k p) (place_fits other k q) h g is)
    64 0 t u refl (λ k x is. clear _ is) (λ k x is. none _ is) (λ k lt. absurd (omega arith))
    (ap (λ x. x ++ t) (sym (all_kept e base kept few)) ∙ same ∙ ap (λ x. x ++ u) (all_kept e base other less)) in (
      lists_by_get kept other (λ k. elim (cases_lt k 64) [
        | inl lt ↦ steps.0 k lt
        | inr past ↦ slice_get_past kept k (omega arith) ∙ sym (slice_get_past other k (omega arith))
      ]),
      steps.1,
    )

-- ---- windows

-- a line of the window of an element, from behind its start on
abbrev pub at_window : ℕ → List ℕ → List ℕ
at_window e x = codes "element " ++ (decimal e ++ (32 ∷ x))

-- no line of this element's window begins a text, and none of an entry
pub record NoWindow (e : ℕ) (t : List ℕ) : Type 0 where
  pub window : (x : List ℕ) → t ≡ at_window e x → ⊥
  pub entries : NoEntries t

base_is : (e base : ℕ) (t : List ℕ) → base_line e base ++ t ≡ at_window e (codes "base " ++ (decimal base ++ (10 ∷ t)))
base_is e base t = simp append_assoc

unlike : (e : ℕ) (x y : List ℕ) → at_window e x ≡ codes "entry " ++ y → ⊥
unfolding third
unlike e x y same = eqb-false 101 116 refl (ap third same)

-- whether an element has asked nothing
abbrev asks_nothing : Window → Bool
asks_nothing w = (w.base == 1) && (length w.kept == 0)

-- the lines of one that has asked something
abbrev asked_text : ℕ → Window → List ℕ
asked_text e w = base_line e w.base ++ kept_lines e w

new_text : (e : ℕ) (w : Window) → asks_nothing w ≡ true → window_lines e (Some w) ≡ []
new_text e w is = ap (λ (test : Bool). if test then [] else asked_text e w) is

old_text : (e : ℕ) (w : Window) → asks_nothing w ≡ false → window_lines e (Some w) ≡ asked_text e w
old_text e w is = ap (λ (test : Bool). if test then [] else asked_text e w) is

asked_is : (e : ℕ) (w : Window) (t : List ℕ) → asked_text e w ++ t
    ≡ at_window e (codes "base " ++ (decimal w.base ++ (10 ∷ (kept_lines e w ++ t))))
asked_is e w t = append_assoc (base_line e w.base) (kept_lines e w) t ∙ base_is e w.base (kept_lines e w ++ t)

starts_later : (a e : ℕ) (x t : List ℕ) → a < 2 ^ 64 → e < a → t ≡ at_window a x → NoWindow e t
starts_later a e x t i lt is = record {
  window = λ y same. (let number : a ≡ e = (field_cut (codes "element ") 32 a e x y (omega arith) i (omega arith) (sym
      is ∙ same)).0 in (omega arith));
  entries = λ y same. unlike a x y (sym is ∙ same);
}

-- the lines of a window begin none of an earlier one
pub later_window : (a e : ℕ) (w : Option Window) (t : List ℕ) → a < 2 ^ 64 → e < a → NoWindow e t
    → NoWindow e (window_lines a w ++ t)
later_window a e None t i lt h = h
later_window a e (Some w) t i lt h = elim (cases_Bool (asks_nothing w)) [
  | inl is ↦ subst (λ x. NoWindow e (x ++ t)) (sym (new_text a w is)) h
  | inr is ↦ starts_later a e _ _ i lt (ap (λ x. x ++ t) (old_text a w is) ∙ asked_is a w t)
]

-- the window of one that has asked nothing
nothing_kept : (kept : List Kept) → length kept ≡ 0 → kept ≡ []
nothing_kept [] none = refl
nothing_kept (k ∷ kept) none = absurd (omega arith)

same_windows : (w v : Window) → w.base ≡ v.base → w.kept ≡ v.kept → w ≡ v
same_windows w v p q = ap₂ (λ (b : ℕ) (k : List Kept). record { base = b; kept = k }) p q

new_same : (w v : Window) → asks_nothing w ≡ true → asks_nothing v ≡ true → w ≡ v
new_same w v p q =
    let one = and_parts (w.base == 1) (length w.kept == 0) p in
    let other = and_parts (v.base == 1) (length v.kept == 0) q in
    same_windows w v (eqb-true w.base 1 one.0 ∙ sym (eqb-true v.base 1 other.0))
    (nothing_kept w.kept (eqb-true (length w.kept) 0 one.1) ∙ sym (nothing_kept v.kept (eqb-true (length v.kept) 0
    other.1)))

asked_cut : (e : ℕ) (w v : Window) (t u : List ℕ) → e < 2 ^ 64 → IsWindow w → IsWindow v → FitEntries w.kept
    → FitEntries v.kept
    → NoEntries t → NoEntries u → asked_text e w ++ t ≡ asked_text e v ++ u → (w ≡ v) × (t ≡ u)
asked_cut e w v t u i p q fit fits clear none same =
    let few : length w.kept ≤ 64 = p.few in
    let less : length v.kept ≤ 64 = q.few in
    let low : w.base + length w.kept ≤ LAST + 1 = p.to_last in
    let high : v.base + length v.kept ≤ LAST + 1 = q.to_last in
    let line : codes "base " ++ (decimal w.base ++ (10 ∷ (kept_lines e w ++ t)))
    ≡ codes "base " ++ (decimal v.base ++ (10 ∷ (kept_lines e v ++ u))) =
    (field_cut (codes "element ") 32 e e _ _ (omega arith) i i (sym (asked_is e w t) ∙ same ∙ asked_is e v u)).1 in
    let bases : (w.base ≡ v.base) × (kept_lines e w ++ t ≡ kept_lines e v ++ u) =
    number_then w.base v.base 10 _ _ (omega arith) (omega arith) (omega arith) (append_cancel_left (codes "base ") _ _
    line) in
    let entries : (w.kept ≡ v.kept) × (t ≡ u) =
    entries_cut e w.base w.kept v.kept t u i (omega arith) few less fit fits clear none
    (bases.1 ∙ ap (λ b. texts_below (kept_text e b v.kept) (length v.kept) ++ u) (sym bases.0)) in
    (same_windows w v bases.0 entries.0, entries.1)

-- the lines of two windows
pub window_cut : (e : ℕ) (w v : Window) (t u : List ℕ) → e < 2 ^ 64 → IsWindow w → IsWindow v → FitEntries w.kept
    → FitEntries v.kept
    → NoWindow e t → NoWindow e u → window_lines e (Some w) ++ t ≡ window_lines e (Some v) ++ u → (w ≡ v) × (t ≡ u)
window_cut e w v t u i p q fit fits clear none same = elim (cases_Bool (asks_nothing w)) [
  | inl is ↦ elim (cases_Bool (asks_nothing v)) [
    | inl its ↦ (
      new_same w v is its,
      sym (ap (λ x. x ++ t) (new_text e w is)) ∙ same
          ∙ ap (λ x. x ++ u) (new_text e v its),
    )
    | inr isnt ↦ absurd (clear.window _ (sym (ap (λ x. x ++ t) (new_text e w is)) ∙ same
        ∙ ap (λ x. x ++ u) (old_text e v isnt) ∙ asked_is e v u))
  ]
  | inr isnt ↦ elim (cases_Bool (asks_nothing v)) [
    | inl its ↦ absurd (none.window _ (sym (ap (λ x. x ++ u) (new_text e v its)) ∙ sym same
        ∙ ap (λ x. x ++ t) (old_text e w isnt) ∙ asked_is e w t))
    | inr its ↦ asked_cut e w v t u i p q fit fits clear.entries none.entries
        (sym (ap (λ x. x ++ t) (old_text e w isnt)) ∙ same ∙ ap (λ x. x ++ u) (old_text e v its))
  ]
]

-- a text that begins with an e
abbrev pub BeginsE : List ℕ → Type 0
BeginsE t = (x : List ℕ) × (t ≡ 101 ∷ x)

-- the lines of a window do, or there are none
pub begins_window : (a : ℕ) (w : Option Window) (t : List ℕ) → BeginsE t → BeginsE (window_lines a w ++ t)
begins_window a None t h = h
begins_window a (Some w) t h = elim (cases_Bool (asks_nothing w)) [
  | inl is ↦ subst (λ x. BeginsE (x ++ t)) (sym (new_text a w is)) h
  | inr is ↦ (_, ap (λ x. x ++ t) (old_text a w is) ∙ asked_is a w t)
]
