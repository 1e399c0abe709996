-- Runs of which nothing is known but that they read.
use Rattle.std.proofs.Common.{Result}
use Rattle.{im_types.specs.Types.Refusal, im_disk.proofs.SinceLemmas.reads_then}
use Rattle.im_disk.specs.{declared.Disk.Ghosts, Runs.ReadsAlone, Runs.ReadsOrRefuses}

-- one behind the other
pub reads-both : {D : Type 0} (disk : Ghosts D) (old mid new : D)
    → ReadsAlone disk old mid → ReadsAlone disk mid new → ReadsAlone disk old new
reads-both disk old mid new first second = record {
  honest = λ h. first.honest (second.honest h);
  reads = λ h. reads_then (disk.now old) (disk.now mid) (disk.now new)
      (disk.past old) (disk.past mid) (disk.past new) (first.reads (second.honest h)) (second.reads h);
}

-- what a run that may be refused does to the disk, and nothing more
pub reads-so : {D T : Type 0} (disk : Ghosts D) (old new : D) (result : Result T Refusal) (may : Refusal → Type 0)
    → ReadsOrRefuses disk old new result may → ReadsAlone disk old new
reads-so disk old new result may run = record { honest = run.honest; reads = run.reads }
