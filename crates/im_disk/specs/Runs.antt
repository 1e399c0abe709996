-- What a run of calls does to a disk, as one fact. A disk is two things here: what contracts know of its type, as
-- `D.Disk`, and its values before and after the run. All but the failures is known only if the disk is honest at the
-- end.
use Rattle.std.specs.Prelude.{ℕ, List, Result}
use Rattle.im_types.specs.Types.{Refusal}
use Rattle.im_disk.specs.{declared.disk.Disk.Ghosts, Moment.Counts, Moment.Faults}
use Rattle.im_disk.specs.Since.{CallsBy, LeavesOnly, OnlyReads}

module _ {D : Type 0} (disk : Ghosts D) (old new : D) where
  -- The run leaves only P. It makes n calls, or no more if it fails. It fails if and only if a call of the disk does.
  pub record Runs {T E : Type 0} (result : Result T E) (n : ℕ) (P : List ℕ → Type 0) : Type 0 where
    pub honest : disk.honest new → disk.honest old
    pub leaves : disk.honest new → LeavesOnly disk.now disk.past old new P
    pub calls : disk.honest new → CallsBy disk.past old new n result
    pub failures : Counts result (disk.failures old) (disk.failures new)

  -- The same, or it is refused for one of these reasons: `Device` exactly if a call of the disk fails.
  pub record RunsOrRefuses {T : Type 0} (result : Result T Refusal) (may : Refusal → Type 0) (n : ℕ)
      (P : List ℕ → Type 0) : Type 0 where
    pub honest : disk.honest new → disk.honest old
    pub leaves : disk.honest new → LeavesOnly disk.now disk.past old new P
    pub calls : disk.honest new → CallsBy disk.past old new n result
    pub faults : Faults may result (disk.failures old) (disk.failures new)

  -- The run comes to P. It fails if and only if a call of the disk does.
  pub record Obeys {T E : Type 0} (result : Result T E) (P : Type 0) : Type 0 where
    pub honest : disk.honest new → disk.honest old
    pub kept : disk.honest new → P
    pub failures : Counts result (disk.failures old) (disk.failures new)

  -- The same, or it is refused for one of these reasons: `Device` exactly if a call of the disk fails. P holds then
  -- too.
  pub record ObeysOrRefuses {T : Type 0} (result : Result T Refusal) (may : Refusal → Type 0)
      (P : Type 0) : Type 0 where
    pub honest : disk.honest new → disk.honest old
    pub kept : disk.honest new → P
    pub faults : Faults may result (disk.failures old) (disk.failures new)

  -- The run only reads, whatever its calls return.
  pub record ReadsAlone : Type 0 where
    pub honest : disk.honest new → disk.honest old
    pub reads : disk.honest new → OnlyReads disk.now disk.past old new

  -- The run only reads. It fails if and only if a call of the disk does.
  pub record ReadsOrFails {T E : Type 0} (result : Result T E) : Type 0 where
    pub honest : disk.honest new → disk.honest old
    pub reads : disk.honest new → OnlyReads disk.now disk.past old new
    pub failures : Counts result (disk.failures old) (disk.failures new)

  -- The run only reads, or is refused for one of these reasons: `Device` exactly if a call of the disk fails.
  pub record ReadsOrRefuses {T : Type 0} (result : Result T Refusal) (may : Refusal → Type 0) : Type 0 where
    pub honest : disk.honest new → disk.honest old
    pub reads : disk.honest new → OnlyReads disk.now disk.past old new
    pub faults : Faults may result (disk.failures old) (disk.failures new)
