-- Work that was refused.
use Rattle.std.proofs.Common.{◌≡◌, ℕ, List, IfOk, None, Ok, Err, Option, Result, MatchResult, refl, inr}
use Rattle.im_disk.specs.declared.{Disk.Ghosts as DiskGhosts, FileDisk.FileDisk, Start.Ghosts}
use Rattle.im_words.specs.declared.Work.{Work}
use Rattle.im_program.specs.Told.{HasWorked, WorkDone}

-- whatever was asked was refused, and no file was opened
pub nothing_done : {S T : Type 0} (start : Ghosts S) (other : Ghosts T) (d : DiskGhosts (FileDisk S start))
    (e : DiskGhosts (FileDisk T other)) (work : Work (List ℕ)) (done : FileDisk S start → Type 0) (status : ℕ)
    → status ≡ 1 → HasWorked start other d e work done status None None
nothing_done start other d e work done status one = record {
  result = tt;
  named = tt;
  both = tt;
  none = inr one;
}

-- what a table of work came to, or nothing of a refusal
pub done_or_refused : {S T W E : Type 0} (start : Ghosts S) (other : Ghosts T) (d : DiskGhosts (FileDisk S start))
    (e : DiskGhosts (FileDisk T other)) (input : Option (List ℕ)) (work : Work (List ℕ))
    (contents : W → Option (List ℕ)) (was : Option (List ℕ)) (mid is : W)
    (r : Result (ℕ × Option (FileDisk S start) × Option (FileDisk T other)) E)
    (came_to : ℕ × Option (FileDisk S start) × Option (FileDisk T other))
    → IfOk r (λ x. WorkDone start other d e input work was (contents mid) x.0 x.1 x.2)
    → MatchResult r (λ x. (came_to ≡ x) × (is ≡ mid)) (λ _. came_to ≡ (1, None, None))
    → WorkDone start other d e input work was (contents is) came_to.0 came_to.1 came_to.2
done_or_refused start other d e input work contents was mid is (Ok x) came_to done same = rw same.0 (rw same.1 done)
done_or_refused start other d e input work contents was mid is (Err f) came_to done none =
    rw none (nothing_done start other d e work _ 1 refl)
