-- Rows of records: one more, and none other.
use Rattle.std.proofs.Common.{◌≡◌, ℕ, ◌+◌, ◌*◌, ◌<◌, ◌≤◌, List, [], ◌∷◌, ◌++◌, length, get_or, Err, IsErrOf, sym, ap}
use Rattle.std.proofs.Common.{◌∙◌, subst, arith, length-append, below_more}
use Rattle.std.proofs.lemmas.List.{get_or_append_left, get_or_at}
use Rattle.im_types.specs.Types.{Refusal, record_at}
use Rattle.im_records.{proofs.Parts.record_of_piece, specs.Rows.BeginWith, specs.Rows.Spells, specs.Rows.StandsAt}

-- a refusal of one call is that of another
pub refused-same : {T U : Type 0} (a b : Refusal) → IsErrOf {T = T} {E = Refusal} (Err a) b
    → IsErrOf {T = U} {E = Refusal} (Err a) b
refused-same a b e = let same : a ≡ b = cc in ap Err same

module _ {X : Type 0} (size : ℕ) (spelled : X → List ℕ) (Fits : X → Type 0) (none : X) where
  pub begin_more : (bytes : List ℕ) (i : ℕ) (row : List X) (x : X) (pushed : List X)
      → BeginWith size spelled Fits none i bytes row → Spells spelled Fits (record_at size bytes i) x → pushed
      ≡ row ++ x ∷ [] → BeginWith size spelled Fits none (i + 1) bytes pushed
  begin_more bytes i row x pushed begin is grown = subst
      (λ (l : List X). BeginWith size spelled Fits none (i + 1) bytes l) (sym grown)
      (record {
        many = length-append row (x ∷ []) ∙ plus_one (length row) i begin.many;
        each = below_more (λ k. Spells spelled Fits (record_at size bytes k) (get_or (row ++ x ∷ []) k none)) i
            (λ k lt. subst (λ (y : X). Spells spelled Fits (record_at size bytes k) y) (sym (old k lt))
            (begin.each k lt))
            (subst (λ (y : X). Spells spelled Fits (record_at size bytes i) y) (sym new) is);
      })
    where
      plus_one : (a b : ℕ) → a ≡ b → a + 1 ≡ b + 1
      plus_one a b e = omega arith

      old : (k : ℕ) → k < i → get_or (row ++ x ∷ []) k none ≡ get_or row k none
      old k lt = get_or_append_left row (x ∷ []) none k (omega (arith, begin.many))

      new : get_or (row ++ x ∷ []) i none ≡ x
      new = get_or_at row x [] none i begin.many

  -- one more, out of a piece that stands behind the first m
  pub begin_behind : (m i : ℕ) (piece area : List ℕ) (row : List X) (x : X) (pushed : List X)
      → StandsAt (size * m) piece area → size * i + size ≤ length piece
      → BeginWith size spelled Fits none (m + i) area row
      → Spells spelled Fits (record_at size piece i) x → pushed ≡ row ++ x ∷ []
      → BeginWith size spelled Fits none (m + (i + 1)) area pushed
  begin_behind m i piece area row x pushed stands room begin is grown =
      subst (λ (n : ℕ). BeginWith size spelled Fits none n area pushed) (next m i)
      (begin_more area (m + i) row x pushed begin
      (subst (λ (bytes : List ℕ). Spells spelled Fits bytes x)
      (record_of_piece size m i piece area stands room) is) grown)
    where
      next : (a b : ℕ) → a + b + 1 ≡ a + (b + 1)
      next a b = omega arith

  -- and where the piece has none, no area with it begins with so many
  pub none_behind : (m i count : ℕ) (piece area : List ℕ) (all : List X) → StandsAt (size * m) piece area
      → size * i + size ≤ length piece → m + i < count
      → ((x : X) → Spells spelled Fits (record_at size piece i) x → ⊥)
      → BeginWith size spelled Fits none count area all → ⊥
  none_behind m i count piece area all stands room lt wrong begin =
      wrong (get_or all (m + i) none)
      (subst (λ (bytes : List ℕ). Spells spelled Fits bytes (get_or all (m + i) none))
      (sym (record_of_piece size m i piece area stands room)) (begin.each (m + i) lt))

  pub begin_as_many : (n m : ℕ) (bytes : List ℕ) (row : List X) → BeginWith size spelled Fits none n bytes row → n
      ≡ m → BeginWith size spelled Fits none m bytes row
  begin_as_many n m bytes row begin same = subst (λ (k : ℕ). BeginWith size spelled Fits none k bytes row) same begin
