-- What each file left has, if the commands of a session keep it.
use Rattle.std.proofs.Common.{◌≡◌, ℕ, ◌+◌, List, ◌++◌, length, take, sym, subst, ⊎_elim, arith, length-append}
use Rattle.std.proofs.Common.{length-take-le}
use Rattle.im_types.specs.Types.{Command, Contents, after, Means}
use Rattle.{im_disk.proofs.SinceLemmas.leaves_weaker, im_engine.proofs.FilesMean.means_one}
use Rattle.im_disk.specs.{declared.Disk.Ghosts, Since.LeavesNow, Since.LeavesOnly}
use Rattle.im_session.proofs.KeptLemmas.{all_begins, beginning}
use Rattle.im_session.specs.{Carrying.LedBy, Carrying.PrefixesKeep, Kept.Kept, Kept.MeansPrefix, Kept.SessionState}

-- the commands that led to where a session began
pub record BeganWith {D : Type 0} (P : List Command → Contents → Type 0) (s : SessionState D) : Type 0 where
  pub earlier : List Command
  pub holds : P earlier s.start.memory
  pub count : s.start.count ≡ length earlier

module _ {D : Type 0} (disk : Ghosts D) (P : List Command → Contents → Type 0) (s : SessionState D) (kept : Kept disk s)
    (h : disk.honest s.engine.disk) (before : LeavesNow (disk.now s.start.disk) (LedBy P)) where
  pub began_with : BeganWith P s
  began_with =
      let found = (kept.leaves h).found in
      let it = before found.0 found.1 in
      let same = means_one found.0 s.start.memory it.1.0 s.start.count (length it.0) 0 0 found.2 it.1.1.1 in
      record { earlier = it.0; holds = subst (P it.0) (sym same.0) it.1.1.0; count = same.1 }

  prefix_led : PrefixesKeep P s → (file : List ℕ) → MeansPrefix s.start (s.put ++ s.doubt) file → LedBy P file
  prefix_led keep file means =
      let all : List Command = s.put ++ s.doubt in
      let done : List Command = take means.0 all in
      let it = began_with in
      let count = it.count in
      let short : length done ≡ means.0 = length-take-le means.0 all means.1 in
      let both = length-append it.earlier done in
      let sum : s.start.count + means.0 ≡ length (it.earlier ++ done) = omega (arith, count, short, both) in (
        it.earlier ++ done,
        (
          after s.start.memory done,
          (
            keep it.earlier it.holds count means.0 means.1,
            subst (λ (n : ℕ). Means (after s.start.memory done) n 0 file) sum means.2,
          ),
        ),
      )

  pub carried : PrefixesKeep P s → LeavesOnly disk.now disk.past s.start.disk s.engine.disk (LedBy P)
  carried keep = let it = kept.leaves h in record {
    within = leaves_weaker (disk.now s.start.disk) (disk.now s.engine.disk) (disk.past s.start.disk)
        (disk.past s.engine.disk) (MeansPrefix s.start (s.put ++ s.doubt)) (LedBy P) it.since (prefix_led keep);
    after = λ file left. ⊎_elim
        (λ sure. prefix_led keep file (beginning s.start s.put s.doubt file (all_begins s.start s.put file sure)))
        (λ all. prefix_led keep file (all_begins s.start (s.put ++ s.doubt) file all))
        (it.now file left);
  }
