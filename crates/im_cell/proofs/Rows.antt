-- The records of cells, by what is kept for each.
use Rattle.std.proofs.Common.{◌≡◌, ℕ, zero, suc, ◌<◌, List, [], ◌∷◌, ◌++◌, map, length, get_or, replicate, None, sym}
use Rattle.std.proofs.Common.{refl, ap, ◌∙◌, arith}
use Rattle.im_types.specs.Types.{CellRecord, FreeCell}
use Rattle.im_cell.specs.{Cells.record_shown, Cells.rows_in, Cells.slots_in, Cells.state_slot, Slots.shown_slot}
use Rattle.im_cell.specs.declared.state.{Extent.Extent, State.State, TheConstants.NOWHERE}
use Rattle.im_cell.specs.declared.state.State.TheVariants.{ClashedI, ClashedM, EmptyI, EmptyM, Free, FullI, FullM}
use Rattle.im_cell.specs.declared.state.State.TheVariants.{WaitingI, WaitingM}

pub length-rows : (states : List State) (values : List ℕ) (extents : List Extent) (lasts : List ℕ)
    → length values ≡ length states → length extents ≡ length states → length lasts ≡ length states
    → length (rows_in states values extents lasts) ≡ length states
unfolding rows_in
length-rows [] values extents lasts ev ex el = refl
length-rows (s ∷ states) [] extents lasts ev ex el = absurd (omega arith)
length-rows (s ∷ states) (v ∷ values) [] lasts ev ex el = absurd (omega arith)
length-rows (s ∷ states) (v ∷ values) (x ∷ extents) [] ev ex el = absurd (omega arith)
length-rows (s ∷ states) (v ∷ values) (x ∷ extents) (l ∷ lasts) ev ex el =
    ap suc (length-rows states values extents lasts (omega arith) (omega arith) (omega arith))

pub at-rows : (states : List State) (values : List ℕ) (extents : List Extent) (lasts : List ℕ) (k : ℕ) (ds : State)
    (dv : ℕ) (dx : Extent) (dl : ℕ) (d : CellRecord)
    → length values ≡ length states → length extents ≡ length states → length lasts ≡ length states
    → k < length states → get_or (rows_in states values extents lasts) k d
    ≡ record_shown (get_or states k ds) (get_or values k dv) (get_or extents k dx) (get_or lasts k dl)
unfolding rows_in
at-rows [] values extents lasts k ds dv dx dl d ev ex el less = absurd (omega arith)
at-rows (s ∷ states) [] extents lasts k ds dv dx dl d ev ex el less = absurd (omega arith)
at-rows (s ∷ states) (v ∷ values) [] lasts k ds dv dx dl d ev ex el less = absurd (omega arith)
at-rows (s ∷ states) (v ∷ values) (x ∷ extents) [] k ds dv dx dl d ev ex el less = absurd (omega arith)
at-rows (s ∷ states) (v ∷ values) (x ∷ extents) (l ∷ lasts) zero ds dv dx dl d ev ex el less = refl
at-rows (s ∷ states) (v ∷ values) (x ∷ extents) (l ∷ lasts) (suc k) ds dv dx dl d ev ex el less =
    at-rows states values extents lasts k ds dv dx dl d (omega arith) (omega arith) (omega arith) (omega arith)

-- one cell more
pub rows-more : (states : List State) (values : List ℕ) (extents : List Extent) (lasts : List ℕ) (s : State) (v : ℕ)
    (x : Extent) (l : ℕ) → length values ≡ length states → length extents ≡ length states
    → length lasts ≡ length states
    → rows_in (states ++ s ∷ []) (values ++ v ∷ []) (extents ++ x ∷ []) (lasts ++ l ∷ [])
    ≡ rows_in states values extents lasts ++ record_shown s v x l ∷ []
unfolding rows_in
rows-more [] [] [] [] s v x l ev ex el = refl
rows-more [] [] [] (m ∷ lasts) s v x l ev ex el = absurd (omega arith)
rows-more [] [] (y ∷ extents) lasts s v x l ev ex el = absurd (omega arith)
rows-more [] (w ∷ values) extents lasts s v x l ev ex el = absurd (omega arith)
rows-more (t ∷ states) [] extents lasts s v x l ev ex el = absurd (omega arith)
rows-more (t ∷ states) (w ∷ values) [] lasts s v x l ev ex el = absurd (omega arith)
rows-more (t ∷ states) (w ∷ values) (y ∷ extents) [] s v x l ev ex el = absurd (omega arith)
rows-more (t ∷ states) (w ∷ values) (y ∷ extents) (m ∷ lasts) s v x l ev ex el =
    ap (λ rs. record_shown t w y m ∷ rs)
    (rows-more states values extents lasts s v x l (omega arith) (omega arith) (omega arith))

-- the slot of a cell is what its record shows
slot-shown : (s : State) (v : ℕ) (x : Extent) (l : ℕ) → state_slot s v x ≡ shown_slot (record_shown s v x l)
slot-shown Free v x l = refl
slot-shown EmptyI v x l = refl
slot-shown WaitingI v x l = refl
slot-shown FullI v x l = refl
slot-shown ClashedI v x l = refl
slot-shown EmptyM v x l = refl
slot-shown WaitingM v x l = refl
slot-shown FullM v x l = refl
slot-shown ClashedM v x l = refl

pub slots-shown : (states : List State) (values : List ℕ) (extents : List Extent) (lasts : List ℕ)
    → length values ≡ length states → length extents ≡ length states → length lasts ≡ length states
    → slots_in states values extents ≡ map shown_slot (rows_in states values extents lasts)
unfolding slots_in rows_in
slots-shown [] values extents lasts ev ex el = refl
slots-shown (s ∷ states) [] extents lasts ev ex el = absurd (omega arith)
slots-shown (s ∷ states) (v ∷ values) [] lasts ev ex el = absurd (omega arith)
slots-shown (s ∷ states) (v ∷ values) (x ∷ extents) [] ev ex el = absurd (omega arith)
slots-shown (s ∷ states) (v ∷ values) (x ∷ extents) (l ∷ lasts) ev ex el =
    ap (λ z. z ∷ slots_in states values extents) (slot-shown s v x l)
    ∙ ap (λ zs. shown_slot (record_shown s v x l) ∷ zs)
    (slots-shown states values extents lasts (omega arith) (omega arith) (omega arith))

-- so many free cells
pub rows-free : (n : ℕ) → rows_in (replicate n Free) (replicate n 0) (replicate n NOWHERE) (replicate n 0)
    ≡ replicate n (FreeCell 0 0)
unfolding rows_in
rows-free zero = refl
rows-free (suc n) = ap (λ rs. FreeCell 0 0 ∷ rs) (rows-free n)

-- no cell
pub rows-none : (states : List State) (values : List ℕ) (extents : List Extent) (lasts : List ℕ) → states ≡ []
    → rows_in states values extents lasts ≡ []
unfolding rows_in
rows-none [] values extents lasts e = refl
rows-none (s ∷ states) values extents lasts e = absurd (some-more s states e)
  where
    some-more : (s : State) (states : List State) → s ∷ states ≡ [] → ⊥
    some-more s states e = cc

-- the same, where it is known what the lists are
pub rows-all : (n : ℕ) (states : List State) (values : List ℕ) (extents : List Extent) (lasts : List ℕ)
    → states ≡ replicate n Free → values ≡ replicate n 0 → extents ≡ replicate n NOWHERE → lasts ≡ replicate n 0
    → rows_in states values extents lasts ≡ replicate n (FreeCell 0 0)
rows-all n states values extents lasts a b c d =
    ap (λ s. rows_in s values extents lasts) a ∙ ap (λ v. rows_in (replicate n Free) v extents lasts) b
    ∙ ap (λ x. rows_in (replicate n Free) (replicate n 0) x lasts) c
    ∙ ap (rows_in (replicate n Free) (replicate n 0) (replicate n NOWHERE)) d ∙ rows-free n

-- how many there are
pub long-rows : (states : List State) (values : List ℕ) (extents : List Extent) (lasts : List ℕ)
    (now : List CellRecord) → length values ≡ length states → length extents ≡ length states
    → length lasts ≡ length states → rows_in states values extents lasts ≡ now → length states ≡ length now
long-rows states values extents lasts now ev ex el is =
    sym (length-rows states values extents lasts ev ex el) ∙ ap length is

-- what was read of a cell is what its record shows
pub row-read : (states : List State) (values : List ℕ) (extents : List Extent) (lasts : List ℕ) (k : ℕ) (s : State)
    (v : ℕ) (x : Extent) (l : ℕ) (d : CellRecord)
    → length values ≡ length states → length extents ≡ length states → length lasts ≡ length states
    → k < length states → s ≡ get_or states k s → v ≡ get_or values k v → x ≡ get_or extents k x
    → l ≡ get_or lasts k l → record_shown s v x l ≡ get_or (rows_in states values extents lasts) k d
row-read states values extents lasts k s v x l d ev ex el less is_s is_v is_x is_l =
    ap (λ t. record_shown t v x l) is_s ∙ ap (λ w. record_shown (get_or states k s) w x l) is_v
    ∙ ap (λ y. record_shown (get_or states k s) (get_or values k v) y l) is_x
    ∙ ap (record_shown (get_or states k s) (get_or values k v) (get_or extents k x)) is_l
    ∙ sym (at-rows states values extents lasts k s v x l d ev ex el less)

-- free cells have no slot, and so no block
pub slots-free : (n : ℕ) → map shown_slot (replicate n (FreeCell 0 0)) ≡ replicate n None
slots-free zero = refl
slots-free (suc n) = ap (λ s. None ∷ s) (slots-free n)
