-- Runs of calls that only read, one behind the other, as a record says it.
use Rattle.std.proofs.Common.{ℕ, Ok, Err, Result, subst}
use Rattle.im_types.specs.Types.{Refusal}
use Rattle.im_disk.proofs.SinceLemmas.{reads_then}
use Rattle.im_disk.specs.{declared.disk.Disk.Ghosts, Moment.Fault, Moment.Faults, Runs.ReadsOrRefuses, Since.OnlyReads}

module _ {D : Type 0} (disk : Ghosts D) (old mid new : D) where
  both : (disk.honest mid → OnlyReads disk.now disk.past old mid) → (disk.honest new → disk.honest mid)
      → (disk.honest new → OnlyReads disk.now disk.past mid new)
      → disk.honest new → OnlyReads disk.now disk.past old new
  both first was second h = reads_then (disk.now old) (disk.now mid) (disk.now new)
      (disk.past old) (disk.past mid) (disk.past new) (first (was h)) (second h)

  -- behind one that succeeded, a run that may be refused: for more reasons in the whole than in its second part
  pub reads-on : {S T : Type 0} (x : S) (result : Result T Refusal) (first second may : Refusal → Type 0)
      → ((e : Refusal) → second e → may e) → ReadsOrRefuses disk old mid (Ok x) first
      → ReadsOrRefuses disk mid new result second → ReadsOrRefuses disk old new result may
  reads-on x (Ok y) first second may wider one two = record {
    honest = λ h. one.honest (two.honest h);
    reads = both one.reads two.honest two.reads;
    faults = subst (λ (n : ℕ). Faults may (Ok y) n (disk.failures new)) one.faults two.faults;
  }
  reads-on x (Err e) first second may wider one two = record {
    honest = λ h. one.honest (two.honest h);
    reads = both one.reads two.honest two.reads;
    faults = subst (λ (n : ℕ). Fault may n (disk.failures new) e) one.faults
        (wider e two.faults.0, two.faults.1, two.faults.2);
  }
