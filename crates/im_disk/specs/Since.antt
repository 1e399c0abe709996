-- What a run of calls may leave from its start on, in one clause. proofs/SinceLemmas.antt has the laws.
use Rattle.std.specs.Prelude.{◌≡◌, ℕ, ◌+◌, ◌<◌, ◌≤◌, ◌⊎◌, List, ◌∷◌, length, slice_index, MatchResult, Result}
use Rattle.im_disk.specs.Moment.{Left, LeftSince, Moment}

-- The run leaves only P: since any time up to its start, a crash leaves a file with P, or one that it could leave
-- before the run.
pub record Leaves (old new : Moment) (past_old past_new : List Moment) (P : List ℕ → Type 0) : Type 0 where
  pub later : length past_old ≤ length past_new
  pub each : (t : ℕ) (c : List ℕ) → t ≤ length past_old → LeftSince (new ∷ past_new) t c
      → LeftSince (old ∷ past_old) t c ⊎ P c

-- each file that a crash at this moment may leave has P
abbrev pub LeavesNow : Moment → (List ℕ → Type 0) → Type 0
LeavesNow m P = (c : List ℕ) → Left m c → P c

-- The same for a disk, by its moments and its past: what a run of calls leaves within it.
abbrev pub LeavesWithin : {D : Type 0} → (D → Moment) → (D → List Moment) → D → D → (List ℕ → Type 0) → Type 0
LeavesWithin now past old new P = Leaves (now old) (now new) (past old) (past new) P

-- For a disk: the run leaves only P, within it and at its end.
pub record LeavesOnly {D : Type 0} (now : D → Moment) (past : D → List Moment) (old new : D)
    (P : List ℕ → Type 0) : Type 0 where
  pub within : LeavesWithin now past old new P
  pub after : LeavesNow (now new) P

-- the files agree outside n bytes at this offset
pub record SameBut (at n : ℕ) (c d : List ℕ) : Type 0 where
  pub size : length d ≡ length c
  pub same : (i : ℕ) → (i < at) ⊎ (at + n ≤ i) → slice_index d i ≡ slice_index c i

-- The run only reads: the moment stays, and a crash leaves what it could leave at the start.
pub record ReadsOnly (old new : Moment) (past_old past_new : List Moment) : Type 0 where
  pub now : new ≡ old
  pub leaves : Leaves old new past_old past_new (Left old)

-- the same for a disk, by its moments and its past
abbrev pub OnlyReads : {D : Type 0} → (D → Moment) → (D → List Moment) → D → D → Type 0
OnlyReads now past old new = ReadsOnly (now old) (now new) (past old) (past new)

-- the run makes exactly n calls
abbrev pub Calls : {D : Type 0} → (D → List Moment) → D → D → ℕ → Type 0
Calls past old new n = length (past new) ≡ length (past old) + n

-- the run makes at most n calls
abbrev pub CallsAtMost : {D : Type 0} → (D → List Moment) → D → D → ℕ → Type 0
CallsAtMost past old new n = length (past new) ≤ length (past old) + n

-- exactly n calls at `Ok`, and no more at a refusal
abbrev pub CallsBy : {D T E : Type 0} → (D → List Moment) → D → D → ℕ → Result T E → Type 0
CallsBy past old new n result = MatchResult result (λ _. Calls past old new n) (λ _. CallsAtMost past old new n)
