-- What a session keeps as it goes on.
use Rattle.std.proofs.Common.{ℕ, ◌+◌, ◌≤◌, List, [], ◌++◌, length, sym, refl, subst, ⊎_elim, append-nil, arith}
use Rattle.std.proofs.Common.{length-append}
use Rattle.std.proofs.{lemmas.List.take-append-le, Math.Seq.take-append_seam}
use Rattle.im_types.specs.Types.{Command, after, Means}
use Rattle.im_disk.{proofs.SinceLemmas.leaves_start, proofs.SinceLemmas.only_now, specs.declared.Disk.Ghosts}
use Rattle.im_session.specs.Keeping.{KeepsPut, KeptFrom, MeansFrom}
use Rattle.im_session.specs.Kept.{Kept, MeansPut, SessionStart, SessionState}

-- a file that means the memory after these commands has any number of them
pub from_all : {D : Type 0} (start : SessionStart D) (put more : List Command) (least : ℕ) (file : List ℕ)
    → least ≤ length put → MeansPut start put file → MeansFrom start (put ++ more) least file
from_all start put more least file few means = (
  length put,
  few,
  omega (arith, length-append put more),
  subst (λ (l : List Command). Means (after start.memory l) (start.count + length put) 0 file)
      (sym (take-append_seam put more)) means,
)

pub from_more : {D : Type 0} (start : SessionStart D) (put more : List Command) (least : ℕ) (file : List ℕ)
    → MeansFrom start put least file → MeansFrom start (put ++ more) least file
from_more start put more least file means =
    let within : means.0 ≤ length put = means.2 in (
      means.0,
      means.1,
      omega (arith, length-append put more, within),
      subst (λ (l : List Command). Means (after start.memory l) (start.count + means.0) 0 file)
          (sym (take-append-le means.0 put more within)) means.3,
    )

-- it rests as it is
pub keeps_none : {D : Type 0} (disk : Ghosts D) (s : SessionState D) → KeepsPut disk s s
keeps_none disk s = record {
  start = refl;
  more = [];
  put = sym (append-nil (s.put ++ s.doubt));
  honest = λ h. h;
  leaves = λ h. leaves_start (disk.now s.engine.disk) (disk.past s.engine.disk)
      (MeansFrom s.start (s.put ++ s.doubt) (length s.put));
}

-- what is kept from a time on
module _ {D : Type 0} (disk : Ghosts D) where
  -- as the session goes on
  pub still_kept : (old new : SessionState D) (least time : ℕ) → KeepsPut disk old new → disk.honest new.engine.disk
      → least ≤ length old.put → time ≤ length (disk.past old.engine.disk) → KeptFrom disk old least time
      → KeptFrom disk new least time
  still_kept old new least time on honest few by kept = λ file left. ⊎_elim
      (λ before. subst (λ (s : SessionStart D). MeansFrom s (new.put ++ new.doubt) least file) (sym on.start)
      (subst (λ (l : List Command). MeansFrom old.start l least file) (sym on.put)
      (from_more old.start (old.put ++ old.doubt) on.more least file (kept file before))))
      (λ here. let most : length old.put ≤ here.0 = here.1 in (here.0, omega (arith, few, most), here.2, here.3))
      ((on.leaves honest).each time file by left)

  -- from now on
  pub now_kept : (s : SessionState D) (least : ℕ) → Kept disk s → disk.honest s.engine.disk → least ≤ length s.put
      → KeptFrom disk s least (length (disk.past s.engine.disk))
  now_kept s least kept honest few = λ file left. ⊎_elim
      (λ sure. from_all s.start s.put s.doubt least file few sure)
      (λ both. subst (λ (l : List Command). MeansFrom s.start l least file) (append-nil (s.put ++ s.doubt))
      (from_all s.start (s.put ++ s.doubt) [] least file (omega (arith, few, length-append s.put s.doubt)) both))
      ((kept.leaves honest).now file (only_now (disk.now s.engine.disk) (disk.past s.engine.disk) file left))
