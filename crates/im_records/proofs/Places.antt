-- A record put at its place, and what stands at other places.
use Rattle.std.proofs.Common.{◌≡◌, ℕ, suc, ◌+◌, ◌-◌, ◌*◌, ◌<◌, ◌≤◌, ◌≢◌, ◌⊎◌, List, ◌++◌, length, take, drop, sym, ap}
use Rattle.std.proofs.Common.{◌∙◌, inl, inr, append_assoc, arith, length-append, length-take-le, take-take, drop-drop}
use Rattle.std.proofs.Common.{take_at, drop_at}
use Rattle.std.proofs.{lemmas.Bool.cases_order, lemmas.List.drop-take, Math.Nat.mul-le-mul_left, Math.Nat.mul-suc}
use Rattle.im_types.specs.Types.{record_at}
use Rattle.im_records.{proofs.Pieces.record_is, specs.Placed.placed}

module _ (size at : ℕ) (part bytes : List ℕ) (long : length part ≡ size) (room : at + size ≤ length bytes) where
  before : length (take at bytes) ≡ at
  before = length-take-le at bytes (omega arith)

  split : placed at part bytes ≡ take at bytes ++ (part ++ drop (at + length part) bytes)
  split = append_assoc (take at bytes) part (drop (at + length part) bytes)

  pub put_here : take size (drop at (placed at part bytes)) ≡ part
  put_here = ap (λ (l : List ℕ). take size (drop at l)) split
      ∙ ap (take size) (drop_at (take at bytes) (part ++ drop (at + length part) bytes) at before)
      ∙ take_at part (drop (at + length part) bytes) size long

  early : (place : ℕ) (l : List ℕ) → place + size ≤ at → take size (drop place (take at l)) ≡ take size (drop place l)
  early place l le = ap (λ (k : ℕ). take size (drop place (take k l))) parts
      ∙ ap (take size) (drop-take place (at - place) l) ∙ take-take size (at - place) (drop place l) (omega arith)
    where
      parts : at ≡ place + (at - place)
      parts = omega arith

  put_before : (place : ℕ) → place + size ≤ at → take size (drop place (placed at part bytes))
      ≡ take size (drop place bytes)
  put_before place le =
      sym (early place (placed at part bytes) le)
      ∙ ap (λ (l : List ℕ). take size (drop place l))
      (ap (take at) split ∙ take_at (take at bytes) (part ++ drop (at + length part) bytes) at before)
      ∙ early place bytes le

  put_behind : (place : ℕ) → at + size ≤ place → take size (drop place (placed at part bytes))
      ≡ take size (drop place bytes)
  put_behind place le =
      ap (λ (k : ℕ). take size (drop k (placed at part bytes))) parts
      ∙ ap (take size)
      (sym (drop-drop (place - (at + size)) (at + size) (placed at part bytes))
      ∙ ap (drop (place - (at + size)))
      (drop_at (take at bytes ++ part) (drop (at + length part) bytes) (at + size) both
      ∙ ap (λ (k : ℕ). drop (at + k) bytes) long)
      ∙ drop-drop (place - (at + size)) (at + size) bytes)
      ∙ ap (λ (k : ℕ). take size (drop k bytes)) (sym parts)
    where
      parts : place ≡ at + size + (place - (at + size))
      parts = omega arith

      both : length (take at bytes ++ part) ≡ at + size
      both = length-append (take at bytes) part ∙ sums before long
        where
          sums : {a b : ℕ} → a ≡ at → b ≡ size → a + b ≡ at + size
          sums e f = omega arith

  pub put_other : (place : ℕ) → (place + size ≤ at) ⊎ (at + size ≤ place)
      → take size (drop place (placed at part bytes)) ≡ take size (drop place bytes)
  put_other place (inl le) = put_before place le
  put_other place (inr le) = put_behind place le

-- the same by records
pub here_is : (size place : ℕ) (part bytes after : List ℕ) → length part ≡ size → size * place + size ≤ length bytes
    → after ≡ placed (size * place) part bytes → record_at size after place ≡ part
here_is size place part bytes after long room put = ap (λ (l : List ℕ). record_at size l place) put
    ∙ record_is size place (placed (size * place) part bytes) ∙ put_here size (size * place) part bytes long room

pub others_are : (size place k : ℕ) (part bytes after : List ℕ) → length part ≡ size
    → size * place + size ≤ length bytes → (size * k + size ≤ size * place) ⊎ (size * place + size ≤ size * k)
    → after ≡ placed (size * place) part bytes → record_at size after k ≡ record_at size bytes k
others_are size place k part bytes after long room apart put =
    ap (λ (l : List ℕ). record_at size l k) put
    ∙ record_is size k (placed (size * place) part bytes)
    ∙ put_other size (size * place) part bytes long room (size * k) apart
    ∙ sym (record_is size k bytes)

-- records of a size at two places lie apart
pub apart : (size k place : ℕ) → k ≢ place → (size * k + size ≤ size * place) ⊎ (size * place + size ≤ size * k)
apart size k place ne = by (cases_order k place)
  where
    before : (a b : ℕ) → a < b → size * a + size ≤ size * b
    before a b lt = omega (arith, mul-suc size a, mul-le-mul_left {m = suc a} {n = b} size lt)

    by : (k ≡ place) ⊎ ((k < place) ⊎ (place < k)) → (size * k + size ≤ size * place) ⊎ (size * place + size ≤ size * k)
    by (inl e) = absurd (ne e)
    by (inr (inl lt)) = inl (before k place lt)
    by (inr (inr lt)) = inr (before place k lt)
