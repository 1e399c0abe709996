-- Lists of waiters in one row.
use Rattle.std.proofs.Common.{◌≡◌, ℕ, zero, suc, ◌+◌, ◌-◌, ◌*◌, ◌<◌, ◌≤◌, List, [], ◌∷◌, ◌++◌, length, get_or, take}
use Rattle.std.proofs.Common.{drop, replicate, slice_range, sum_by, sym, refl, ap, ◌∙◌, subst, ⊎_elim, append_assoc}
use Rattle.std.proofs.Common.{append-nil, arith, length-append, length-drop, length-take-le}
use Rattle.std.proofs.lemmas.List.{drop-append-le, Folds.sum_by-replicate, get_or-append_right, get_or-replicate}
use Rattle.std.proofs.lemmas.List.{length-replicate, replicate_more, take-append-le}
use Rattle.std.proofs.lemmas.List.Sums.{sum_by-append, sum_by-cons}
use Rattle.std.proofs.Math.Seq.{drop-append_seam, take-length}
use Rattle.{im_types.specs.Types.Waiter, im_laws.proofs.Tests.below_or_from}
use Rattle.im_contents.specs.Row.{cut, Rise, spread}

pub Rise-from : (start : ℕ) (ends : List ℕ) (size : ℕ) → Rise start ends size → start ≤ size
Rise-from start [] size rise = omega arith
Rise-from start (end ∷ ends) size rise = let more = Rise-from end ends size rise.1 in let here = rise.0 in omega arith

-- one more list behind the others
pub Rise-push : (start : ℕ) (ends : List ℕ) (size bigger : ℕ) → Rise start ends size → size ≤ bigger
    → Rise start (ends ++ bigger ∷ []) bigger
Rise-push start [] size bigger rise le = (omega arith, refl)
Rise-push start (end ∷ ends) size bigger rise le = (rise.0, Rise-push end ends size bigger rise.1 le)

-- empty lists behind the others
Rise-same : (start n size : ℕ) → start ≡ size → Rise start (replicate n size) size
Rise-same start zero size is = is
Rise-same start (suc n) size is = (omega (arith, is), Rise-same size n size refl)

Rise-fill : (start : ℕ) (ends : List ℕ) (n size : ℕ) → Rise start ends size → Rise start (ends ++ replicate n size) size
Rise-fill start [] n size rise = Rise-same start n size rise
Rise-fill start (end ∷ ends) n size rise = (rise.0, Rise-fill end ends n size rise.1)

cut-same : (waiters : List Waiter) (start n size : ℕ) → start ≡ size → cut waiters start (replicate n size)
    ≡ replicate n []
cut-same waiters start zero size is = refl
cut-same waiters start (suc n) size is =
    let none : size - start ≡ 0 = omega (arith, is) in
    ap (λ (k : ℕ). take k (drop start waiters) ∷ cut waiters size (replicate n size)) none
    ∙ ap (λ (ls : List (List Waiter)). [] ∷ ls) (cut-same waiters size n size refl)

cut-fill : (waiters : List Waiter) (start : ℕ) (ends : List ℕ) (n : ℕ) → Rise start ends (length waiters)
    → cut waiters start (ends ++ replicate n (length waiters)) ≡ cut waiters start ends ++ replicate n []
cut-fill waiters start [] n rise = cut-same waiters start n (length waiters) rise
cut-fill waiters start (end ∷ ends) n rise = ap (λ (ls : List (List Waiter)). slice_range waiters start end ∷ ls)
    (cut-fill waiters end ends n rise.1)

module _ (waiters more : List Waiter) where
  -- what is behind doesn't matter
  range-front : (start end : ℕ) → start ≤ end → end ≤ length waiters → slice_range (waiters ++ more) start end
      ≡ slice_range waiters start end
  range-front start end le within =
      ap (take (end - start)) (drop-append-le start waiters more (omega arith))
      ∙ take-append-le (end - start) (drop start waiters) more (omega (arith, length-drop start waiters))

  range-behind : (start : ℕ) → start ≡ length waiters
      → slice_range (waiters ++ more) start (length (waiters ++ more)) ≡ more
  range-behind start is =
      let count : length (waiters ++ more) - start ≡ length more = omega (arith, length-append waiters more) in
      ap (λ (n : ℕ). take n (drop start (waiters ++ more))) count
      ∙ ap (λ (n : ℕ). take (length more) (drop n (waiters ++ more))) is
      ∙ ap (take (length more)) (drop-append_seam waiters more)
      ∙ take-length more

  pub cut-push : (start : ℕ) (ends : List ℕ) → Rise start ends (length waiters)
      → cut (waiters ++ more) start (ends ++ length (waiters ++ more) ∷ []) ≡ cut waiters start ends ++ more ∷ []
  cut-push start [] rise = ap (λ (l : List Waiter). l ∷ []) (range-behind start rise)
  cut-push start (end ∷ ends) rise =
      ap (λ (l : List Waiter). l ∷ cut (waiters ++ more) end (ends ++ length (waiters ++ more) ∷ []))
      (range-front start end rise.0 (Rise-from end ends (length waiters) rise.1))
      ∙ ap (λ (ls : List (List Waiter)). slice_range waiters start end ∷ ls) (cut-push end ends rise.1)

-- The ends when the list of one more cell is found. Only a list with somebody on it has an end kept.
pub record IsEndKept (ends kept : List ℕ) (cell start end : ℕ) : Type 0 where
  pub some : start < end → kept ≡ ends ++ replicate (cell - length ends) start ++ end ∷ []
  pub none : end ≤ start → kept ≡ ends

pub record AreSpread (front : List (List Waiter)) (list now : List Waiter) (ends : List ℕ) (cells : ℕ) : Type 0 where
  pub rise : Rise 0 ends (length now)
  pub few : length ends ≤ cells
  pub is : spread now ends cells ≡ front ++ list ∷ []

module _ (waiters more : List Waiter) (ends : List ℕ) (cell : ℕ) (rise : Rise 0 ends (length waiters))
    (few : length ends ≤ cell) where
  abbrev filled : List ℕ
  filled = ends ++ replicate (cell - length ends) (length waiters)

  count-filled : length filled ≡ cell
  count-filled = omega (
    arith,
    few,
    length-append ends (replicate (cell - length ends) (length waiters)),
    length-replicate (cell - length ends) (length waiters),
  )

  spread-some : AreSpread (spread waiters ends cell) more (waiters ++ more)
      (filled ++ length (waiters ++ more) ∷ []) (cell + 1)
  spread-some =
      let fills = Rise-fill 0 ends (cell - length ends) (length waiters) rise in
      let count : length (filled ++ length (waiters ++ more) ∷ []) ≡ cell + 1 =
      length-append filled (length (waiters ++ more) ∷ []) ∙ ap (λ (n : ℕ). n + 1) count-filled in
      let none : (cell + 1) - length (filled ++ length (waiters ++ more) ∷ []) ≡ 0 = omega (arith, count) in
      record {
        rise = Rise-push 0 filled (length waiters) (length (waiters ++ more)) fills
            (omega (arith, length-append waiters more));
        few = omega (arith, count);
        is = ap (λ (n : ℕ). cut (waiters ++ more) 0 (filled ++ length (waiters ++ more) ∷ []) ++ replicate n []) none
            ∙ append-nil (cut (waiters ++ more) 0 (filled ++ length (waiters ++ more) ∷ []))
            ∙ cut-push waiters more 0 filled fills
            ∙ ap (λ (ls : List (List Waiter)). ls ++ more ∷ [])
            (cut-fill waiters 0 ends (cell - length ends) rise);
      }

  spread-none : AreSpread (spread waiters ends cell) [] waiters ends (cell + 1)
  spread-none =
      let count : (cell + 1) - length ends ≡ (cell - length ends) + 1 = omega (arith, few) in
      record {
        rise = rise;
        few = omega (arith, few);
        is = ap (λ (n : ℕ). cut waiters 0 ends ++ replicate n []) count
            ∙ ap (λ (ls : List (List Waiter)). cut waiters 0 ends ++ ls)
            (sym (replicate_more (cell - length ends) []))
            ∙ sym (append_assoc (cut waiters 0 ends) (replicate (cell - length ends) []) ([] ∷ []));
      }

spread-same : (waiters more : List Waiter) (ends : List ℕ) (cell : ℕ) → Rise 0 ends (length waiters)
    → length ends ≤ cell → length (waiters ++ more) ≤ length waiters
    → AreSpread (spread waiters ends cell) more (waiters ++ more) ends (cell + 1)
spread-same waiters [] ends cell rise few le = subst
    (λ (now : List Waiter). AreSpread (spread waiters ends cell) [] now ends (cell + 1)) (sym (append-nil waiters))
    (spread-none waiters [] ends cell rise few)
spread-same waiters (who ∷ more) ends cell rise few le =
    let longer : length (waiters ++ who ∷ more) ≡ length waiters + suc (length more) =
    length-append waiters (who ∷ more) in
    absurd (omega (arith, longer, le))

-- one more list behind the others, in a row of ends that reach only as far as somebody waits
pub spread-push : (waiters more : List Waiter) (ends kept : List ℕ) (cell : ℕ) → Rise 0 ends (length waiters)
    → length ends ≤ cell → IsEndKept ends kept cell (length waiters) (length (waiters ++ more))
    → AreSpread (spread waiters ends cell) more (waiters ++ more) kept (cell + 1)
spread-push waiters more ends kept cell rise few is = ⊎_elim
    (λ (l : length waiters < length (waiters ++ more)). subst
    (λ (es : List ℕ). AreSpread (spread waiters ends cell) more (waiters ++ more) es (cell + 1)) (sym (is.some l))
    (spread-some waiters more ends cell rise few))
    (λ (r : length (waiters ++ more) ≤ length waiters). subst
    (λ (es : List ℕ). AreSpread (spread waiters ends cell) more (waiters ++ more) es (cell + 1)) (sym (is.none r))
    (spread-same waiters more ends cell rise few r))
    (below_or_from (length waiters) (length (waiters ++ more)))

pub length-cut : (waiters : List Waiter) (start : ℕ) (ends : List ℕ) → length (cut waiters start ends) ≡ length ends
length-cut waiters start [] = refl
length-cut waiters start (end ∷ ends) = ap suc (length-cut waiters end ends)

pub length-spread : (waiters : List Waiter) (ends : List ℕ) (cells : ℕ) → length ends ≤ cells
    → length (spread waiters ends cells) ≡ cells
length-spread waiters ends cells few =
    omega (
      arith,
      few,
      length-append (cut waiters 0 ends) (replicate (cells - length ends) []),
      length-cut waiters 0 ends,
      length-replicate {A = List Waiter} (cells - length ends) [],
    )

-- nobody is on a list behind the last end
pub spread-behind : (waiters : List Waiter) (ends : List ℕ) (cells i : ℕ) (lists : List (List Waiter))
    → spread waiters ends cells ≡ lists → length ends ≤ cells → i < length lists → length ends ≤ i
    → get_or lists i [] ≡ []
spread-behind waiters ends cells i lists view few lt past =
    let count : length lists ≡ cells = ap length (sym view) ∙ length-spread waiters ends cells few in
    ap (λ (ls : List (List Waiter)). get_or ls i []) (sym view)
    ∙ get_or-append_right (cut waiters 0 ends) (replicate (cells - length ends) []) (length ends) i []
    (length-cut waiters 0 ends) past
    ∙ get_or-replicate (cells - length ends) (i - length ends) [] [] (omega (arith, count, few, lt, past))

-- a list stands in the row from here to there
pub record Stands (waiters : List Waiter) (lists : List (List Waiter)) (i start end : ℕ) : Type 0 where
  pub from : start ≤ end
  pub to : end ≤ length waiters
  pub list : slice_range waiters start end ≡ get_or lists i []

stands : (waiters : List Waiter) (first : ℕ) (ends : List ℕ) (i : ℕ) → Rise first ends (length waiters)
    → i < length ends → (d : ℕ)
    → Stands waiters (cut waiters first ends) i (get_or (first ∷ ends) i 0) (get_or ends i d)
stands waiters first [] i rise lt d = absurd (omega arith)
stands waiters first (end ∷ ends) zero rise lt d = record {
  from = rise.0;
  to = Rise-from end ends
      (length waiters) rise.1;
  list = refl;
}
stands waiters first (end ∷ ends) (suc i) rise lt d =
    let s = stands waiters end ends i rise.1 (omega arith) d in
    record { from = s.from; to = s.to; list = s.list }

get_or-front : (xs ys : List (List Waiter)) (i : ℕ) → i < length xs → get_or (xs ++ ys) i [] ≡ get_or xs i []
get_or-front [] ys i lt = absurd (omega (arith, lt))
get_or-front (x ∷ xs) ys zero lt = refl
get_or-front (x ∷ xs) ys (suc i) lt = get_or-front xs ys i (omega (arith, lt))

pub stands_at : (waiters : List Waiter) (ends : List ℕ) (lists : List (List Waiter)) (i start end : ℕ)
    → (cells : ℕ) → spread waiters ends cells ≡ lists → Rise 0 ends (length waiters) → i < length ends
    → (read : List ℕ) → read ≡ ends → start ≡ get_or (0 ∷ read) i 0 → (d : ℕ) → end ≡ get_or ends i d
    → Stands waiters lists i start end
stands_at waiters ends lists i start end cells view rise lt read same starts d is =
    let s =
    subst (λ (s : ℕ). Stands waiters (cut waiters 0 ends) i s end)
    (sym (starts ∙ ap (λ (es : List ℕ). get_or (0 ∷ es) i 0) same))
    (subst (λ (e : ℕ). Stands waiters (cut waiters 0 ends) i (get_or (0 ∷ ends) i 0) e) (sym is)
    (stands waiters 0 ends i rise lt d)) in
    record {
      from = s.from;
      to = s.to;
      list = s.list
          ∙ sym (get_or-front (cut waiters 0 ends) (replicate (cells - length ends) []) i
          (omega (arith, lt, length-cut waiters 0 ends)))
          ∙ ap (λ (ls : List (List Waiter)). get_or ls i []) view;
    }

-- there are as many waiters behind the start of the first list as in all lists
pub sum-cut : (waiters : List Waiter) (start : ℕ) (ends : List ℕ) → Rise start ends (length waiters)
    → sum_by length (cut waiters start ends) + start ≡ length waiters
sum-cut waiters start [] rise =
    let all : start ≡ length waiters = rise in
    omega (arith, all)
sum-cut waiters start (end ∷ ends) rise =
    let more = sum-cut waiters end ends rise.1 in
    let to = Rise-from end ends (length waiters) rise.1 in
    let from = rise.0 in
    let behind : length (drop start waiters) ≡ length waiters - start = length-drop start waiters in
    let here : length (slice_range waiters start end)
    ≡ end - start = length-take-le (end - start) (drop start waiters) (omega (arith, behind, to, from)) in
    omega (arith, sum_by-cons length (slice_range waiters start end) (cut waiters end ends), more, here, from)

pub sum-spread : (waiters : List Waiter) (ends : List ℕ) (cells : ℕ) → Rise 0 ends (length waiters)
    → sum_by length (spread waiters ends cells) ≡ length waiters
sum-spread waiters ends cells rise =
    let n : ℕ = cells - length ends in
    let none : List (List Waiter) = replicate n [] in
    let empty : sum_by (length {A = Waiter}) none ≡ n * 0 = sum_by-replicate (length {A = Waiter}) n [] in
    omega (arith, sum_by-append (length {A = Waiter}) (cut waiters 0 ends) none, empty, sum-cut waiters 0 ends rise)

-- lists with nobody on them are empty
pub none-behind : (waiters : List Waiter) (lists : List (List Waiter)) → sum_by length (waiters ∷ lists) ≡ 0
    → (length waiters ≡ 0) × (sum_by length lists ≡ 0)
none-behind waiters lists none =
    let all = sum_by-cons length waiters lists in
    (omega (arith, all, none), omega (arith, all, none))

pub nobody-listed : (lists : List (List Waiter)) → sum_by length lists ≡ 0 → lists ≡ replicate (length lists) []
nobody-listed [] none = refl
nobody-listed ([] ∷ lists) none = ap (λ (ls : List (List Waiter)). [] ∷ ls)
    (nobody-listed lists (none-behind [] lists none).1)
nobody-listed ((w ∷ waiters) ∷ lists) none =
    let some : suc (length waiters) ≡ 0 = (none-behind (w ∷ waiters) lists none).0 in
    absurd (omega (arith, some))
