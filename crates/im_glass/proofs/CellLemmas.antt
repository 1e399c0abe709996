-- Cells with their values, and what a change makes of them.
use Rattle.std.proofs.Common.{◌≡◌, ℕ, zero, suc, ◌+◌, ◌<◌, ◌≤◌, Bool, true, false, List, [], ◌∷◌, length, get_or, set}
use Rattle.std.proofs.Common.{replicate, Some, None, Option, refl, ap, ◌∙◌, arith, length-set}
use Rattle.im_types.specs.Types.{fill, Change, Fills as Full, Same, Gone}
use Rattle.im_glass.specs.Cells.{cell_seen, cells_seen, cells_written}

pub cells_length : (fulls : List Bool) (values : List ℕ) → length fulls ≡ length values
    → length (cells_seen fulls values) ≡ length fulls
cells_length [] values e = refl
cells_length (f ∷ fulls) [] e = absurd (omega (arith, e))
cells_length (f ∷ fulls) (v ∷ values) e = ap suc (cells_length fulls values (omega (arith, e)))

pub cells_get : (fulls : List Bool) (values : List ℕ) (a : ℕ) (f : Bool) (v : ℕ) → length fulls ≡ length values
    → a < length fulls
    → cell_seen (get_or fulls a f) (get_or values a v) ≡ get_or (cells_seen fulls values) a None
cells_get [] values a f v e h = absurd (omega arith)
cells_get (g ∷ fulls) [] a f v e h = absurd (omega (arith, e))
cells_get (g ∷ fulls) (w ∷ values) zero f v e h = refl
cells_get (g ∷ fulls) (w ∷ values) (suc a) f v e h = cells_get fulls values a f v (omega (arith, e)) (omega (arith, h))

pub cells_past : (fulls : List Bool) (values : List ℕ) (a : ℕ) → length fulls ≤ a → None
    ≡ get_or (cells_seen fulls values) a None
cells_past [] values a h = refl
cells_past (g ∷ fulls) [] a h = refl
cells_past (g ∷ fulls) (w ∷ values) zero h = absurd (omega (arith, h))
cells_past (g ∷ fulls) (w ∷ values) (suc a) h = cells_past fulls values a (omega (arith, h))

pub cells_filled : (fulls : List Bool) (values : List ℕ) (a v : ℕ) → cells_seen (set fulls a true) (set values a v)
    ≡ set (cells_seen fulls values) a (Some v)
cells_filled [] values a v = refl
cells_filled (g ∷ fulls) [] zero v = refl
cells_filled (g ∷ fulls) [] (suc a) v = refl
cells_filled (g ∷ fulls) (w ∷ values) zero v = refl
cells_filled (g ∷ fulls) (w ∷ values) (suc a) v = ap (λ cells. cell_seen g w ∷ cells) (cells_filled fulls values a v)

pub cells_emptied : (fulls : List Bool) (values : List ℕ) (a : ℕ) → cells_seen (set fulls a false) values
    ≡ set (cells_seen fulls values) a None
cells_emptied [] values a = refl
cells_emptied (g ∷ fulls) [] zero = refl
cells_emptied (g ∷ fulls) [] (suc a) = refl
cells_emptied (g ∷ fulls) (w ∷ values) zero = refl
cells_emptied (g ∷ fulls) (w ∷ values) (suc a) = ap (λ cells. cell_seen g w ∷ cells) (cells_emptied fulls values a)

pub cells_new : (n v : ℕ) → cells_seen (replicate n false) (replicate n v) ≡ replicate n None
cells_new zero v = refl
cells_new (suc n) v = ap (λ cells. None ∷ cells) (cells_new n v)

-- cells that are emptied one after another
pub fill-none : {X : Type 0} (cells : List (Option X)) (base : ℕ) → cells ≡ fill cells base 0 None
fill-none [] base = refl
fill-none (c ∷ cells) zero = refl
fill-none (c ∷ cells) (suc base) = ap (λ cells. c ∷ cells) (fill-none cells base)

pub fill-more : {X : Type 0} (cells : List (Option X)) (base n : ℕ) → set (fill cells base n None) (base + n) None
    ≡ fill cells base (suc n) None
fill-more [] base n = refl
fill-more (c ∷ cells) zero zero = ap (λ cells. None ∷ cells) (fill-none cells 0)
fill-more (c ∷ cells) zero (suc n) = ap (λ (a : ℕ). set (None ∷ fill cells zero n None) a None)
    (let e : 0 + suc n ≡ suc (0 + n) = omega arith in e) ∙ ap (λ cells. None ∷ cells) (fill-more cells zero n)
fill-more (c ∷ cells) (suc base) n = ap (λ (a : ℕ). set (c ∷ fill cells base n None) a None)
    (let e : suc base + n ≡ suc (base + n) = omega arith in e) ∙ ap (λ cells. c ∷ cells) (fill-more cells base n)

pub length-filled : {X : Type 0} (cells : List (Option X)) (base n : ℕ) → length (fill cells base n None) ≡ length cells
length-filled [] base n = refl
length-filled (c ∷ cells) zero zero = refl
length-filled (c ∷ cells) zero (suc n) = ap suc (length-filled cells zero n)
length-filled (c ∷ cells) (suc base) n = ap suc (length-filled cells base n)

pub length-written : (cells : List (Option ℕ)) (change : Change) → length (cells_written cells change) ≡ length cells
length-written cells Same = refl
length-written cells (Full a v) = length-set cells a (Some v)
length-written cells (Gone base n) = length-filled cells base n
