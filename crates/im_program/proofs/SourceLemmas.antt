-- A text, and where it was read.
use Rattle.std.proofs.Common.{◌≡◌, ℕ, Bool, true, false, ◌⊎◌, List, IfSome, IfOk, if◌then◌else◌, Some, None, Ok, Err}
use Rattle.std.proofs.Common.{Option, Result, sym, subst, inl, inr}
use Rattle.im_disk.specs.declared.{Disk.Ghosts as DiskGhosts, FileDisk.FileDisk, Start.Ghosts}
use Rattle.{im_disk.specs.Moment.Moment, im_text.specs.Said.Output, im_words.specs.declared.Work.Work}
use Rattle.im_program.specs.{Sources.IsTextOf, Told.WorkDone}
use Rattle.im_program.specs.Working.{EndsStrictly, MakesImage, ScriptServed, ScriptServes, TextServed}

-- it was read from the input
pub from_input : {A E : Type 0} (text : A → List ℕ) (r : Result A E) (known : Option (List ℕ)) (b : Bool) → b ≡ true
    → IfOk r (λ a. IfSome known (λ bytes. text a ≡ bytes))
    → IfOk r (λ a. IsTextOf (if b then known else None) (text a))
from_input text r known b is it =
    subst (λ (x : Bool). IfOk r (λ a. IsTextOf (if x then known else None) (text a))) (sym is) it

-- it was read from a file
pub from_file : {A E : Type 0} (text : A → List ℕ) (r : Result A E) (known : Option (List ℕ)) (b : Bool) → b ≡ false
    → IfOk r (λ a. IsTextOf (if b then known else None) (text a))
from_file text (Ok a) known b is =
    subst (λ (x : Bool). IsTextOf (if x then known else None) (text a)) (sym is) tt
from_file text (Err e) known b is = tt

-- the same text, by another name
pub text_as : (known : Option (List ℕ)) (text other : List ℕ) → other ≡ text → IsTextOf known text
    → IsTextOf known other
text_as known text other same it = subst (IsTextOf known) (sym same) it

-- the text that was served is what was read
pub text_served : {D : Type 0} (d : DiskGhosts D) (once : Bool) (first : Moment) (bytes : List ℕ) (disk : D)
    (was : Output) (is : Option (List ℕ)) (status : ℕ) → ScriptServed d once false first (Some bytes) disk was is status
    → TextServed d once first bytes was is status disk
text_served d once first bytes disk was is status it = (
  it.old,
  it.begins,
  it.none,
  subst (λ (t : List ℕ). EndsStrictly false (ScriptServes d once t it.old disk was) is status) it.read it.served,
)

-- What was done with an input that nobody asked, if it was asked about a new image alone.
pub done_with : {S T I : Type 0} (start : Ghosts S) (other : Ghosts T) (d : DiskGhosts (FileDisk S start))
    (e : DiskGhosts (FileDisk T other)) (remaining : I → Option (List ℕ)) (was_input input : I) (work : Work (List ℕ))
    → MakesImage work ⊎ (input ≡ was_input) → (was is : Option (List ℕ)) (status : ℕ) (disk : Option (FileDisk S start))
    (old : Option (FileDisk T other)) → WorkDone start other d e (remaining input) work was is status disk old
    → WorkDone start other d e (remaining was_input) work was is status disk old
done_with start other d e remaining was_input input work (inr same) was is status disk old it =
    subst (λ i. WorkDone start other d e (remaining i) work was is status disk old) same it
done_with start other d e remaining was_input input work (inl (it, makes)) was is status disk old done =
    subst (λ (w : Work (List ℕ)). WorkDone start other d e (remaining was_input) w was is status disk old) (sym makes)
    (subst (λ (w : Work (List ℕ)). WorkDone start other d e (remaining input) w was is status disk old) makes done)
