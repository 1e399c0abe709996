-- The lines of cells, cut off one after another. (Own.)
use Rattle.std.proofs.Common.{◌≡◌, ℕ, zero, suc, ◌+◌, ◌^◌, ◌<◌, ◌≤◌, Bool, ◌⊎◌, List, [], ◌∷◌, ◌++◌, length}
use Rattle.std.proofs.Common.{if◌then◌else◌, ◌==◌, Some, None, codes, decimal, Option, option_map, sym, refl, ap, ◌∙◌}
use Rattle.std.proofs.Common.{subst, ap₂, inl, inr, append_assoc, arith, eq-eqb, ne_eqb, eqb-true}
use Rattle.std.proofs.lemmas.{Bool.cases_Bool, Bool.cases_lt, Bool.eqb-false, List.append_cancel_left}
use Rattle.std.specs.List.{AllByRecursion}
use Rattle.im_types.specs.Types.{Kind, Waiter, Block, CellState, Empty, Full, Clashed, Held, held_at, waiters_of}
use Rattle.im_types.specs.Types.{waiters_in, block_at, HasBlocks, presence_of, presence_in, CellFull as IsFull}
use Rattle.im_types.specs.Types.{CellClashed as IsClashed}
use Rattle.im_text.specs.Texts.{kind_text, line_feed}
use Rattle.im_dump.proofs.{Cuts.field_cut, Cuts.kind_cut, Cuts.number_then, Steps.three_same}
use Rattle.im_dump.specs.Dump.{begun_line, state_lines, waits_line, waits_lines}
use Rattle.im_dump.specs.Fitting.{FitsHeld, FitsState, FitsWaiter}

-- a line of the cell at an address, from behind its start on
abbrev pub at_cell : ℕ → List ℕ → List ℕ
at_cell a x = codes "cell " ++ (decimal a ++ (32 ∷ x))

-- no line of the cell at this address begins a text
abbrev pub NoCell : ℕ → List ℕ → Type 0
NoCell a t = (x : List ℕ) → t ≡ at_cell a x → ⊥

-- two lines of cells are of one cell
cell_cut : (a b : ℕ) (x y : List ℕ) → a < 2 ^ 64 → b < 2 ^ 64 → at_cell a x ≡ at_cell b y → (a ≡ b) × (x ≡ y)
cell_cut a b x y i j e = field_cut (codes "cell ") 32 a b x y (omega arith) i j e

-- of the same cell
same_cell : (a : ℕ) (x y : List ℕ) → a < 2 ^ 64 → at_cell a x ≡ at_cell a y → x ≡ y
same_cell a x y i e = (cell_cut a a x y i i e).1

-- a line of a cell isn't one of an earlier cell
other_cell : (a j : ℕ) (x t : List ℕ) → a < 2 ^ 64 → j < a → t ≡ at_cell a x → NoCell j t
other_cell a j x t i lt is = λ y e.
    let same : a ≡ j = (cell_cut a j x y i (omega arith) (sym is ∙ e)).0 in
    (omega arith)

-- lines that begin differently differ
apart : (a c d : ℕ) (x y : List ℕ) → a < 2 ^ 64 → (c ≡ d → ⊥) → at_cell a (c ∷ x) ≡ at_cell a (d ∷ y) → ⊥
apart a c d x y i differ e =
    let rest : c ∷ x ≡ d ∷ y = same_cell a (c ∷ x) (d ∷ y) i e in
    let same : c ≡ d = cc in
    differ same

-- ---- the lines

begun_is : (a len : ℕ) (k : Kind) (t : List ℕ)
    → (codes "cell " ++ decimal a ++ codes " block " ++ kind_text k ++ codes " " ++ decimal len ++ line_feed) ++ t
    ≡ at_cell a (codes "block " ++ (kind_text k ++ (32 ∷ (decimal len ++ (10 ∷ t)))))
begun_is a len k t = simp append_assoc

wait_is : (a e n : ℕ) (t : List ℕ)
    → (codes "cell " ++ decimal a ++ codes " waits " ++ decimal e ++ codes "." ++ decimal n ++ line_feed) ++ t
    ≡ at_cell a (codes "waits " ++ (decimal e ++ (46 ∷ (decimal n ++ (10 ∷ t)))))
wait_is a e n t = simp append_assoc

value_is : (a v : ℕ) (w t : List ℕ)
    → (codes "cell " ++ decimal a ++ w ++ decimal v ++ line_feed) ++ t
    ≡ codes "cell " ++ (decimal a ++ (w ++ (decimal v ++ (10 ∷ t))))
value_is a v w t = simp append_assoc

full_is : (a v : ℕ) (t : List ℕ) → state_lines a (Some (IsFull v)) [] ++ t
    ≡ at_cell a (codes "full " ++ (decimal v ++ (10 ∷ t)))
full_is a v t = value_is a v (codes " full ") t

clashed_is : (a v : ℕ) (t : List ℕ) → state_lines a (Some (IsClashed v)) [] ++ t
    ≡ at_cell a (codes "clashed " ++ (decimal v ++ (10 ∷ t)))
clashed_is a v t = value_is a v (codes " clashed ") t

-- ---- those that wait

waits_start : (a : ℕ) (who : Waiter) (others : List Waiter) (t : List ℕ)
    → waits_lines a (who ∷ others) ++ t ≡ at_cell a (codes "waits " ++ (decimal who.element ++ (46 ∷ (decimal
    who.number ++ (10 ∷ (waits_lines a others ++ t))))))
unfolding waits_lines
waits_start a who others t =
    append_assoc (waits_line a who) (waits_lines a others) t ∙ wait_is a who.element who.number (waits_lines a others
    ++ t)

waits_end : (a : ℕ) (t : List ℕ) → waits_lines a [] ++ t ≡ t
unfolding waits_lines
waits_end a t = refl

who_cut : (who other : Waiter) (x y : List ℕ) → FitsWaiter who → FitsWaiter other
    → codes "waits " ++ (decimal who.element ++ (46 ∷ (decimal who.number ++ (10 ∷ x))))
    ≡ codes "waits " ++ (decimal other.element ++ (46 ∷ (decimal other.number ++ (10 ∷ y))))
    → (who ≡ other) × (x ≡ y)
who_cut who other x y i j e =
    let low : who.element < 2 ^ 16 = i.element in
    let high : other.element < 2 ^ 16 = j.element in
    let first : (who.element ≡ other.element) × (decimal who.number ++ (10 ∷ x) ≡ decimal other.number ++ (10 ∷ y)) =
    number_then who.element other.element 46 _ _ (omega arith) (omega arith) (omega arith)
    (append_cancel_left (codes "waits ") (decimal who.element ++ (46 ∷ (decimal who.number ++ (10 ∷ x)))) (decimal
    other.element ++ (46 ∷ (decimal other.number ++ (10 ∷ y)))) e) in
    let second : (who.number ≡ other.number) × (x ≡ y) = number_then who.number other.number 10 x y i.number j.number
    (omega arith) first.1 in
    (same_waiters who other first.0 second.0, second.1)
  where
    same_waiters : (v w : Waiter) → v.element ≡ w.element → v.number ≡ w.number → v ≡ w
    same_waiters v w p q = ap₂ (λ (e : ℕ) (n : ℕ). record { element = e; number = n }) p q

waits_cut : (ws us : List Waiter) (a : ℕ) (t u : List ℕ) → a < 2 ^ 64 → AllByRecursion FitsWaiter ws
    → AllByRecursion FitsWaiter us
    → NoCell a t → NoCell a u → waits_lines a ws ++ t ≡ waits_lines a us ++ u → (ws ≡ us) × (t ≡ u)
waits_cut [] [] a t u i p q h k e = (refl, sym (waits_end a t) ∙ e ∙ waits_end a u)
waits_cut [] (who ∷ us) a t u i p q h k e = absurd (h _ (sym (waits_end a t) ∙ e ∙ waits_start a who us u))
waits_cut (who ∷ ws) [] a t u i p q h k e = absurd (k _ (sym (waits_end a u) ∙ sym e ∙ waits_start a who ws t))
waits_cut (who ∷ ws) (other ∷ us) a t u i p q h k e =
    let line : (who ≡ other) × (waits_lines a ws ++ t ≡ waits_lines a us ++ u) =
    who_cut who other (waits_lines a ws ++ t) (waits_lines a us ++ u) p.0 q.0
    (same_cell a _ _ i (sym (waits_start a who ws t) ∙ e ∙ waits_start a other us u)) in
    let rest : (ws ≡ us) × (t ≡ u) = waits_cut ws us a t u i p.1 q.1 h k line.1 in
    (ap₂ (λ (w : Waiter) (ws : List Waiter). w ∷ ws) line.0 rest.0, rest.1)

-- waiting requests aren't a value
no_value : (ws : List Waiter) (a c : ℕ) (x t : List ℕ) → a < 2 ^ 64 → (119 ≡ c → ⊥) → NoCell a t
    → waits_lines a ws ++ t ≡ at_cell a (c ∷ x) → ⊥
no_value [] a c x t i differ h e = h (c ∷ x) (sym (waits_end a t) ∙ e)
no_value (who ∷ ws) a c x t i differ h e = apart a 119 c _ x i differ (sym (waits_start a who ws t) ∙ e)

-- ---- states

-- the lines of a state
abbrev state_text : ℕ → CellState → List ℕ
state_text a s = state_lines a (Some (presence_of s)) (waiters_of s)

empty_text : (ws : List Waiter) (a : ℕ) → state_text a (Empty ws) ≡ waits_lines a ws
unfolding waits_lines
empty_text [] a = refl
empty_text (who ∷ ws) a = refl

state_cut : (a : ℕ) (s z : CellState) (t u : List ℕ) → a < 2 ^ 64 → FitsState s → FitsState z → NoCell a t → NoCell a u
    → state_text a s ++ t ≡ state_text a z ++ u → (s ≡ z) × (t ≡ u)
state_cut a (Empty ws) (Empty us) t u i p q h k e =
    let cut : (ws ≡ us) × (t ≡ u) = waits_cut ws us a t u i p q h k (ap (λ x. x ++ t) (sym (empty_text ws a)) ∙ e
    ∙ ap (λ x. x ++ u) (empty_text us a)) in
    (ap Empty cut.0, cut.1)
state_cut a (Empty ws) (Full v) t u i p q h k e =
    absurd (no_value ws a 102 _ t i (eqb-false 119 102 refl) h (ap (λ x. x ++ t) (sym (empty_text ws a)) ∙ e
    ∙ full_is a v u))
state_cut a (Empty ws) (Clashed v) t u i p q h k e =
    absurd (no_value ws a 99 _ t i (eqb-false 119 99 refl) h (ap (λ x. x ++ t) (sym (empty_text ws a)) ∙ e
    ∙ clashed_is a v u))
state_cut a (Full v) (Empty us) t u i p q h k e =
    absurd (no_value us a 102 _ u i (eqb-false 119 102 refl) k (ap (λ x. x ++ u) (sym (empty_text us a)) ∙ sym e
    ∙ full_is a v t))
state_cut a (Clashed v) (Empty us) t u i p q h k e =
    absurd (no_value us a 99 _ u i (eqb-false 119 99 refl) k (ap (λ x. x ++ u) (sym (empty_text us a)) ∙ sym e
    ∙ clashed_is a v t))
state_cut a (Full v) (Full w) t u i p q h k e =
    let cut : (v ≡ w) × (t ≡ u) = field_cut (codes "full ") 10 v w t u (omega arith) p q (same_cell a _ _ i (sym
    (full_is a v t) ∙ e ∙ full_is a w u)) in
    (ap Full cut.0, cut.1)
state_cut a (Full v) (Clashed w) t u i p q h k e = absurd (apart a 102 99 _ _ i (eqb-false 102 99 refl) (sym (full_is a
    v t) ∙ e ∙ clashed_is a w u))
state_cut a (Clashed v) (Full w) t u i p q h k e = absurd (apart a 102 99 _ _ i (eqb-false 102 99 refl) (sym (full_is a
    w u) ∙ sym e ∙ clashed_is a v t))
state_cut a (Clashed v) (Clashed w) t u i p q h k e =
    let cut : (v ≡ w) × (t ≡ u) = field_cut (codes "clashed ") 10 v w t u (omega arith) p q (same_cell a _ _ i (sym
    (clashed_is a v t) ∙ e ∙ clashed_is a w u)) in
    (ap Clashed cut.0, cut.1)

later_state : (a j : ℕ) (s : CellState) (t : List ℕ) → a < 2 ^ 64 → j < a → NoCell j t → NoCell j (state_text a s ++ t)
later_state a j (Empty ws) t i lt h = subst (NoCell j) (ap (λ x. x ++ t) (sym (empty_text ws a))) (later ws)
  where
    later : (ws : List Waiter) → NoCell j (waits_lines a ws ++ t)
    later [] = subst (NoCell j) (sym (waits_end a t)) h
    later (who ∷ ws) = other_cell a j _ _ i lt (waits_start a who ws t)
later_state a j (Full v) t i lt h = other_cell a j _ _ i lt (full_is a v t)
later_state a j (Clashed v) t i lt h = other_cell a j _ _ i lt (clashed_is a v t)

-- ---- cells

-- the block of a cell of one
abbrev pub block_in : Option Held → Option Block
block_in h = option_map (λ (held : Held). held.block) h

-- the lines of a cell
abbrev pub held_text : ℕ → Option Held → List ℕ
held_text a h = begun_line a (block_in h) ++ state_lines a (presence_in h) (waiters_in h)

begun_none : (a : ℕ) (b : Block) → (b.base ≡ a → ⊥) → begun_line a (Some b) ≡ []
begun_none a b away =
    ap (λ (test : Bool). if test then codes "cell " ++ decimal a ++ codes " block " ++ kind_text b.kind ++ codes " " ++
    decimal b.length ++ line_feed else []) (ne_eqb b.base a away)

begun_some : (a : ℕ) (b : Block) (t : List ℕ) → b.base ≡ a → begun_line a (Some b) ++ t
    ≡ at_cell a (codes "block " ++ (kind_text b.kind ++ (32 ∷ (decimal b.length ++ (10 ∷ t)))))
begun_some a b t at =
    ap (λ (test : Bool). (if test then codes "cell " ++ decimal a ++ codes " block " ++ kind_text b.kind ++ codes " "
    ++ decimal b.length ++ line_feed else []) ++ t) (eq-eqb b.base a at)
    ∙ begun_is a b.length b.kind t

later_begun : (a j : ℕ) (b : Block) (t : List ℕ) → a < 2 ^ 64 → j < a → NoCell j t
    → NoCell j (begun_line a (Some b) ++ t)
later_begun a j b t i lt h = elim (cases_Bool (b.base == a)) [
  | inl is ↦ other_cell a j _ _ i lt (begun_some a b t (eqb-true b.base a is))
  | inr isnt ↦ subst (NoCell j) (sym (ap (λ (test : Bool). (if test then codes "cell " ++ decimal a ++ codes " block "
      ++ kind_text b.kind ++ codes " " ++ decimal b.length ++ line_feed else []) ++ t) isnt)) h
]

-- the lines of a cell begin none of an earlier one
pub later_held : (a j : ℕ) (h : Option Held) (t : List ℕ) → a < 2 ^ 64 → j < a → NoCell j t
    → NoCell j (held_text a h ++ t)
later_held a j None t i lt clear = clear
later_held a j (Some held) t i lt clear =
    subst (NoCell j) (sym (append_assoc (begun_line a (Some held.block)) (state_text a held.state) t))
    (later_begun a j held.block _ i lt (later_state a j held.state t i lt clear))

-- where it lies in a block, it is at its base
abbrev pub IsAtBase : ℕ → Option Held → Type 0
IsAtBase a h = (held : Held) → h ≡ Some held → held.block.base ≡ a

-- both lie in a block that began before
pub record IsWithin (a : ℕ) (h g : Option Held) : Type 0 where
  pub block : Block
  pub one : block_in h ≡ Some block
  pub other : block_in g ≡ Some block
  pub away : block.base ≡ a → ⊥

same_helds : (h g : Held) → h.block ≡ g.block → h.state ≡ g.state → Some h ≡ Some g
same_helds h g p q = ap₂ (λ (b : Block) (s : CellState). Some (record { block = b; state = s })) p q

-- both lie in the same block that began before
within_cut : (a : ℕ) (h g : Option Held) (t u : List ℕ) → a < 2 ^ 64 → FitsHeld h → FitsHeld g → IsWithin a h g
    → NoCell a t → NoCell a u
    → held_text a h ++ t ≡ held_text a g ++ u → (h ≡ g) × (t ≡ u)
within_cut a None g t u i p q w clear none e = let is : None ≡ Some w.block = w.one in absurd (cc)
within_cut a (Some h) None t u i p q w clear none e = let is : None ≡ Some w.block = w.other in absurd (cc)
within_cut a (Some h) (Some g) t u i p q w clear none e =
    let one : Some h.block ≡ Some w.block = w.one in
    let other : Some g.block ≡ Some w.block = w.other in
    let first : h.block ≡ w.block = cc in
    let second : g.block ≡ w.block = cc in
    let away : (h.block.base ≡ a → ⊥) = λ at. w.away (sym (ap (λ (b : Block). b.base) first) ∙ at) in
    let gone : (g.block.base ≡ a → ⊥) = λ at. w.away (sym (ap (λ (b : Block). b.base) second) ∙ at) in
    let cut : (h.state ≡ g.state) × (t ≡ u) = state_cut a h.state g.state t u i p q clear none
    (sym (ap (λ x. (x ++ state_text a h.state) ++ t) (begun_none a h.block away)) ∙ e
    ∙ ap (λ x. (x ++ state_text a g.state) ++ u) (begun_none a g.block gone)) in
    (same_helds h g (first ∙ sym second) cut.0, cut.1)

-- a length of a block has its spelling
abbrev pub FitsLength : Option Held → Type 0
FitsLength h = (held : Held) → h ≡ Some held → held.block.length < 2 ^ 64

-- where they lie in blocks, these begin here
base_cut : (a : ℕ) (h g : Option Held) (t u : List ℕ) → a < 2 ^ 64 → FitsHeld h → FitsHeld g → FitsLength h
    → FitsLength g → IsAtBase a h → IsAtBase a g
    → NoCell a t → NoCell a u → held_text a h ++ t ≡ held_text a g ++ u → (h ≡ g) × (t ≡ u)
base_cut a None None t u i p q l m at by clear none e = (refl, e)
base_cut a None (Some g) t u i p q l m at by clear none e =
    absurd (clear _ (e ∙ append_assoc (begun_line a (Some g.block)) (state_text a g.state) u
    ∙ begun_some a g.block (state_text a g.state ++ u) (by g refl)))
base_cut a (Some h) None t u i p q l m at by clear none e =
    absurd (none _ (sym e ∙ append_assoc (begun_line a (Some h.block)) (state_text a h.state) t
    ∙ begun_some a h.block (state_text a h.state ++ t) (at h refl)))
base_cut a (Some h) (Some g) t u i p q l m at by clear none e =
    let line : codes "block " ++ (kind_text h.block.kind ++ (32 ∷ (decimal h.block.length ++ (10 ∷ (state_text a
    h.state ++ t)))))
    ≡ codes "block " ++ (kind_text g.block.kind ++ (32 ∷ (decimal g.block.length ++ (10 ∷ (state_text a g.state ++
    u))))) =
    same_cell a _ _ i (sym (begun_some a h.block (state_text a h.state ++ t) (at h refl))
    ∙ sym (append_assoc (begun_line a (Some h.block)) (state_text a h.state) t)
    ∙ e ∙ append_assoc (begun_line a (Some g.block)) (state_text a g.state) u
    ∙ begun_some a g.block (state_text a g.state ++ u) (by g refl)) in
    let kinds : (h.block.kind ≡ g.block.kind) × (32 ∷ (decimal h.block.length ++ (10 ∷ (state_text a h.state ++ t)))
    ≡ 32 ∷ (decimal g.block.length ++ (10 ∷ (state_text a g.state ++ u)))) =
    kind_cut h.block.kind g.block.kind _ _ (append_cancel_left (codes "block ") _ _ line) in
    let lengths : (h.block.length ≡ g.block.length) × (state_text a h.state ++ t ≡ state_text a g.state ++ u) =
    field_cut (32 ∷ []) 10 h.block.length g.block.length _ _ (omega arith) (l h refl) (m g refl) kinds.1 in
    let states : (h.state ≡ g.state) × (t ≡ u) = state_cut a h.state g.state t u i p q clear none lengths.1 in (
      same_helds h g (three_same (λ (x : ℕ) (y : ℕ) (k : Kind). record { base = x; length = y; kind = k }) (at h refl
          ∙ sym (by g refl)) lengths.0 kinds.0) states.0,
      states.1,
    )

-- either is so
pub held_cut : (a : ℕ) (h g : Option Held) (t u : List ℕ) → a < 2 ^ 64 → FitsHeld h → FitsHeld g → FitsLength h
    → FitsLength g
    → IsWithin a h g ⊎ (IsAtBase a h × IsAtBase a g)
    → NoCell a t → NoCell a u → held_text a h ++ t ≡ held_text a g ++ u → (h ≡ g) × (t ≡ u)
held_cut a h g t u i p q l m (inl within) clear none e = within_cut a h g t u i p q within clear none e
held_cut a h g t u i p q l m (inr bases) clear none e = base_cut a h g t u i p q l m bases.0 bases.1 clear none e

-- ---- blocks from cell to cell

held_block : (h : Option Held) (held : Held) → h ≡ Some held → block_in h ≡ Some held.block
held_block h held is = ap block_in is

-- behind a cell whose block has ended
ended : (cells : List (Option Held)) (k : ℕ) → HasBlocks cells → ((b : Block) → block_at cells k ≡ Some b
    → b.base + b.length ≤ suc k) → IsAtBase (suc k) (held_at cells (suc k))
ended cells k blocks end = λ held is.
    let here : block_at cells (suc k) ≡ Some held.block = held_block (held_at cells (suc k)) held is in
    let within : (held.block.base ≤ suc k) × (suc k < held.block.base + held.block.length) × (held.block.base +
    held.block.length ≤ length cells) = blocks.within (suc k) held.block here in
    let from : held.block.base ≤ suc k = within.0 in
    let to : suc k < held.block.base + held.block.length = within.1 in
    elim (cases_lt k held.block.base) [
      | inl lt ↦ (omega arith)
      | inr le ↦
          (let there : block_at cells k ≡ Some held.block = blocks.whole (suc k) held.block here k le (omega arith) in
          let past : held.block.base + held.block.length ≤ suc k = end held.block there in
          absurd (omega arith))
    ]

first_cell : (cells : List (Option Held)) → HasBlocks cells → IsAtBase 0 (held_at cells 0)
first_cell cells blocks = λ held is.
    let within : (held.block.base ≤ 0) × (0 < held.block.base + held.block.length) × (held.block.base +
    held.block.length ≤ length cells) = blocks.within 0 held.block (held_block (held_at cells 0) held is) in
    let from : held.block.base ≤ 0 = within.0 in
    (omega arith)

option_cases : (x : Option Block) → (x ≡ None) ⊎ ((b : Block) × (x ≡ Some b))
option_cases None = inl refl
option_cases (Some b) = inr (b, refl)

-- cells behind the same cells lie both in a block that began before, or not
pub from_before : (j : ℕ) (cells others : List (Option Held)) → HasBlocks cells → HasBlocks others
    → ((i : ℕ) → i < j → held_at cells i ≡ held_at others i)
    → IsWithin j (held_at cells j) (held_at others j) ⊎ (IsAtBase j (held_at cells j) × IsAtBase j (held_at others j))
from_before zero cells others p q same = inr (first_cell cells p, first_cell others q)
from_before (suc k) cells others p q same =
    let before : block_at cells k ≡ block_at others k = ap block_in (same k (omega arith)) in
    elim (option_cases (block_at cells k)) [
      | inl none ↦ inr (
        ended cells k p (λ b is. absurd (no_block b (sym none ∙ is))),
        ended others k q (λ b is. absurd (no_block b (sym none ∙ before ∙ is))),
      )
      | inr (b, is) ↦ elim (cases_lt (suc k) (b.base + b.length)) [
        | inl lt ↦
            (let from : b.base ≤ k = (p.within k b is).0 in
            inl (record {
              block = b;
              one = p.whole k b is (suc k) (omega arith) lt;
              other = q.whole k b (sym before ∙ is) (suc k) (omega arith) lt;
              away = λ at. (omega arith);
            }))
        | inr le ↦ inr (
          ended cells k p (λ c there. past b c (sym is ∙ there) le),
          ended others k q (λ c there. past b c (sym is ∙ before ∙ there) le),
        )
      ]
    ]
  where
    no_block : (b : Block) → None ≡ Some b → ⊥
    no_block b e = cc

    past : (b c : Block) → Some b ≡ Some c → b.base + b.length ≤ suc k → c.base + c.length ≤ suc k
    past b c e le = let same : b ≡ c = cc in subst (λ (b : Block). b.base + b.length ≤ suc k) same le
