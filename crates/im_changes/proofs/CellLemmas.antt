-- Cells one after another: those that are waited for, and those that are full.
use Rattle.std.proofs.Common.{◌≡◌, ℕ, zero, suc, ◌+◌, ◌-◌, ◌<◌, ◌≤◌, Bool, ◌||◌, List, ◌++◌, length, take, drop, None}
use Rattle.std.proofs.Common.{Option, sym, ap, ◌∙◌, append-nil, arith}
use Rattle.std.{proofs.lemmas.List.drop_all, proofs.Math.Seq.drop-cons, specs.List.list_any}
use Rattle.im_types.specs.Types.{Held, Contents, held_at, is_waiting_cell, fills_from, opening, Change}

abbrev pub waits_in : List (Option Held) → ℕ → ℕ → Bool
waits_in cells a n = list_any is_waiting_cell (take n (drop a cells))

-- the first of these cells, and the others
pub waits-step : (cells : List (Option Held)) (a n : ℕ) → a < length cells → 0 < n
    → waits_in cells a n ≡ (is_waiting_cell (held_at cells a) || waits_in cells (a + 1) (n - 1))
waits-step cells a zero within some = absurd (omega arith)
waits-step cells a (suc n) within some =
    let next : suc a ≡ a + 1 = omega arith in let less : n ≡ suc n - 1 = omega arith in
    ap (λ l. list_any is_waiting_cell (take (suc n) l)) (drop-cons cells a None within)
    ∙ ap (λ k. is_waiting_cell (held_at cells a) || waits_in cells k n) next
    ∙ ap (λ k. is_waiting_cell (held_at cells a) || waits_in cells (a + 1) k) less

-- behind the last cell nothing is left
pub fills-all : (m : Contents) (xs : List Change) (a : ℕ) → length m.cells ≤ a → xs ++ fills_from a (drop a m.cells)
    ≡ opening m → xs ≡ opening m
fills-all m xs a past all =
    sym (append-nil xs) ∙ ap (λ l. xs ++ fills_from a l) (sym (drop_all a m.cells past)) ∙ all
