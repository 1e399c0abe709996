-- The nodes of a list, as a chain of records.
use Rattle.std.proofs.Common.{◌≡◌, ℕ, zero, suc, ◌<◌, ◌≤◌, List, [], ◌∷◌, length, get_or, slice_get, slice_index_or}
use Rattle.std.proofs.Common.{Some, sym, refl, ap, ◌∙◌, subst, inl, inr, arith}
use Rattle.im_types.specs.Types.{Waiter, NONE, NodeRecord, ListNode, FreeNode, IsLink, first_of, last_of, ChainHolds}
use Rattle.im_laws.proofs.Tests.{some_same}
use Rattle.im_arena.specs.{Chain.place_from, Lists.free_record, Lists.link_of, Lists.Threads}

-- the nodes from this one on, as many as there are waiters
abbrev pub chain_from : (ℕ → ℕ) → ℕ → List Waiter → List ℕ
chain_from next at [] = []
chain_from next at (w ∷ ws) = at ∷ chain_from next (next at) ws

pub length-chain : (next : ℕ → ℕ) (at : ℕ) (ws : List Waiter) → length (chain_from next at ws) ≡ length ws
length-chain next at [] = refl
length-chain next at (w ∷ ws) = ap suc (length-chain next (next at) ws)

pub place-chain : (next : ℕ → ℕ) (at : ℕ) (ws : List Waiter) (i : ℕ) → i < length ws
    → get_or (chain_from next at ws) i 0 ≡ place_from next at i
place-chain next at [] i lt = absurd (omega arith)
place-chain next at (w ∷ ws) zero lt = refl
place-chain next at (w ∷ ws) (suc i) lt = place-chain next (next at) ws i (omega arith)

-- what is read of a node that is there
pub record-read : (records : List NodeRecord) (n : ℕ) (node : NodeRecord) → slice_get records n ≡ Some node
    → slice_index_or records n (FreeNode NONE) ≡ node
record-read [] n node e = absurd (cc)
record-read (x ∷ records) zero node e = some_same x node e
record-read (x ∷ records) (suc n) node e = record-read records n node e

pub record_past : (records : List NodeRecord) (n : ℕ) → length records ≤ n → slice_index_or records n (FreeNode NONE)
    ≡ FreeNode NONE
record_past [] n past = refl
record_past (x ∷ records) zero past = absurd (omega arith)
record_past (x ∷ records) (suc n) past = record_past records n (omega arith)

next-read : (records : List NodeRecord) (n : ℕ) (node : NodeRecord) → slice_get records n ≡ Some node
    → link_of (slice_index_or records n free_record) ≡ link_of node
next-read [] n node e = absurd (cc)
next-read (x ∷ records) zero node e = ap link_of (some_same x node e)
next-read (x ∷ records) (suc n) node e = next-read records n node e

pub read-within : (records : List NodeRecord) (n : ℕ) (node : NodeRecord) → slice_get records n ≡ Some node
    → n < length records
read-within [] n node e = absurd (cc)
read-within (x ∷ records) zero node e = omega arith
read-within (x ∷ records) (suc n) node e = let h = read-within records n node e in omega arith

module _ (records : List NodeRecord) where
  abbrev next : ℕ → ℕ
  next n = link_of (slice_index_or records n free_record)

  -- the first node of a thread, and the rest of it
  record Step (at last : ℕ) (w : Waiter) (ws : List Waiter) : Type 0 where
    pub there : slice_get records at ≡ Some (ListNode (next at) w)
    pub rest : Threads records at (next at) last ws

  step : (w : Waiter) (ws : List Waiter) (before at last : ℕ) → Threads records before at last (w ∷ ws)
      → Step at last w ws
  step w ws before at last t =
      let same : next at ≡ t.0 = next-read records at (ListNode t.0 w) t.1 in
      record {
        there = t.1 ∙ ap (λ n. Some (ListNode n w)) (sym same);
        rest = subst (λ n. Threads records at n last ws) (sym same) t.2;
      }

  pub first-chain : (ws : List Waiter) (before at last : ℕ) → Threads records before at last ws → at
      ≡ first_of (chain_from next at ws)
  first-chain [] before at last t = t.0
  first-chain (w ∷ ws) before at last t = refl

  pub holds-chain : (ws : List Waiter) (before at last : ℕ) → Threads records before at last ws
      → ChainHolds records (chain_from next at ws) ws
  holds-chain [] before at last t = tt
  holds-chain (w ∷ ws) before at last t =
      let s = step w ws before at last t in (
        record-read records at (ListNode (next at) w) s.there
            ∙ ap (λ n. ListNode n w) (first-chain ws at (next at) last s.rest),
        holds-chain ws at (next at) last s.rest,
      )

  pub last-chain : (w : Waiter) (ws : List Waiter) (before at last : ℕ) → Threads records before at last (w ∷ ws)
      → last_of (chain_from next at (w ∷ ws)) ≡ last
  last-chain w [] before at last t = (step w [] before at last t).rest.1
  last-chain w (v ∷ ws) before at last t = last-chain v ws at (next at) last (step w (v ∷ ws) before at last t).rest

  pub first-within : (w : Waiter) (ws : List Waiter) (before at last : ℕ) → Threads records before at last (w ∷ ws)
      → at < length records
  first-within w ws before at last t = read-within records at _ (step w ws before at last t).there

  pub last-within : (w : Waiter) (ws : List Waiter) (before at last : ℕ) → Threads records before at last (w ∷ ws)
      → last < length records
  last-within w [] before at last t = omega
      (arith, first-within w [] before at last t, (step w [] before at last t).rest.1)
  last-within w (v ∷ ws) before at last t = last-within v ws at (next at) last (step w (v ∷ ws) before at last t).rest

  -- the node at a place
  pub record Listed (n : ℕ) : Type 0 where
    pub who : Waiter
    pub there : slice_get records n ≡ Some (ListNode (next n) who)
    pub link : IsLink (length records) (next n)

  link-first : (ws : List Waiter) (before at last : ℕ) → Threads records before at last ws → IsLink (length records) at
  link-first [] before at last t = inl t.0
  link-first (w ∷ ws) before at last t = inr (first-within w ws before at last t)

  pub listed-at : (ws : List Waiter) (before at last : ℕ) → Threads records before at last ws → (i : ℕ)
      → i < length ws → Listed (place_from next at i)
  listed-at [] before at last t i lt = absurd (omega arith)
  listed-at (w ∷ ws) before at last t zero lt =
      let s = step w ws before at last t in
      record { who = w; there = s.there; link = link-first ws at (next at) last s.rest }
  listed-at (w ∷ ws) before at last t (suc i) lt = listed-at ws at (next at) last (step w ws before at last t).rest i
      (omega arith)
