-- Planned runs, worked: what the definitions say that each request of a plan comes to is what the memory tells it, in whichever
-- order the requests come.
use Rattle.std.proofs.Common.{◌≡◌, ℕ, ◌≤◌, List, [], ◌∷◌, map, Some, None, Ok, Result, refl, arith}
use Rattle.im_types.specs.Types.{Entry, Op, Waiting, Answered, I, M, Alloc, Fetch, Store, Value, Stored, NoCell}
use Rattle.im_types.specs.Types.{WrongKind, Request, Asks, Refusal, Contents, full_at, empty_contents, ask, asker}
use Rattle.im_types.specs.Types.{after, result_of, FitsPlan}

abbrev request : ℕ → ℕ → Op → Request
request element number op = record { element = element; number = number; op = op }

-- two I cells at 0, and an M cell at 2
abbrev prepared : Contents
prepared = after (empty_contents 4 4) (Asks (request 0 1 (Alloc I 2)) ∷ Asks (request 0 2 (Alloc M 1)) ∷ [])

-- a fetch of a cell that the plan stores to, the store, a fetch of a cell that it doesn't store to, one of no cell, and a store to the M cell
abbrev plan : List Request
plan = request 1 1 (Fetch 0) ∷ request 2 1 (Store 0 7) ∷ request 1 2 (Fetch 1) ∷ request 2 2 (Fetch 3) ∷ request 3 1
    (Store 2 5) ∷ []

-- the same requests in another order
abbrev reordered : List Request
reordered = request 3 1 (Store 2 5) ∷ request 2 1 (Store 0 7) ∷ request 2 2 (Fetch 3) ∷ request 1 1
    (Fetch 0) ∷ request 1 2 (Fetch 1) ∷ []

-- what is kept for each request of the plan after a run
abbrev kept_after : List Request → List (Result Entry Refusal)
kept_after run = map (λ (r : Request). ask (after prepared (map (λ (r : Request). Asks r) run)).windows (asker r)) plan

-- what the definitions say that each comes to
results : map (λ (r : Request). result_of prepared.cells plan r.op) plan
    ≡ Some (Value 7) ∷ Some Stored ∷ None ∷ Some NoCell ∷ Some WrongKind ∷ []
unfolding empty_contents
results = refl

-- and that is what the memory tells, in this order and in the other one; the fetch that has no result waits
told_in_order : kept_after plan
    ≡ Ok (Answered (Value 7)) ∷ Ok (Answered Stored) ∷ Ok Waiting ∷ Ok (Answered NoCell) ∷ Ok (Answered WrongKind) ∷ []
unfolding empty_contents
told_in_order = refl

told_in_another_order : kept_after reordered ≡ kept_after plan
unfolding empty_contents
told_in_another_order = refl

-- in the end the cell that was stored to is full, and the other one isn't
full_in_the_end : full_at (after prepared (map (λ (r : Request). Asks r) plan)) 0 ∷ full_at
    (after prepared (map (λ (r : Request). Asks r) plan)) 1 ∷ [] ≡ Some 7 ∷ None ∷ []
unfolding empty_contents
full_in_the_end = refl

-- Once a store has come, a plan with a fetch of that cell fits no more: the cell isn't empty.
a_full_cell_fits_no_plan : FitsPlan (after prepared (Asks (request 2 1 (Store 0 7)) ∷ []))
    (request 1 1 (Fetch 0) ∷ []) → ⊥
unfolding empty_contents
a_full_cell_fits_no_plan fits = let full = fits.empty 0 (request 1 1 (Fetch 0)) _ refl refl refl in cc

-- And a request whose number was accepted is in no plan that fits.
an_old_number_fits_no_plan : FitsPlan prepared (request 0 2 (Fetch 0) ∷ []) → ⊥
unfolding empty_contents
an_old_number_fits_no_plan fits = let low : 3 ≤ 2 = (fits.number 0 (request 0 2 (Fetch 0)) _ refl refl).0 in omega
    (arith, low)
