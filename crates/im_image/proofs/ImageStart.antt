-- The first fault of an image is the one of its beginning.
use Rattle.std.proofs.Common.{◌≡◌, ℕ, ◌≤◌, Bool, false, ◌⊎◌, List, length, IfErr, if◌then◌else◌, OnOk, nat_lt, Some}
use Rattle.std.proofs.Common.{None, Ok, Err, Result, sym, ap, ◌∙◌, inr, arith}
use Rattle.std.proofs.lemmas.Bool.Decides.{nat_tests}
use Rattle.im_types.specs.Types.{Refusal, Device, WrongLength, header_place}
use Rattle.im_image.specs.declared.{header.Header.Header, in_force.ImageStart.ImageStart, versions.Versions.Versions}
use Rattle.im_image.specs.{Headers.beginning_fault, Headers.first_fault, ImageStart.IsImageStart}

-- a file with room for two header places isn't short
pub long : (n : ℕ) → 8192 ≤ n → nat_lt n 8192 ≡ false
long n le = grind (arith, nat_tests)

pub fault_of_long : (versions : Versions) (file : List ℕ) → 8192 ≤ length file → first_fault versions file
    ≡ beginning_fault versions (length file) (header_place 0 file) (header_place 1 file)
fault_of_long versions file le = ap
    (λ (b : Bool). if b then Some WrongLength else beginning_fault versions (length file)
    (header_place 0 file) (header_place 1 file)) (long (length file) le)

fault-beginning : (versions : Versions) (b : ImageStart) (file : List ℕ) → IsImageStart b file
    → beginning_fault versions b.length b.zero b.one ≡ first_fault versions file
fault-beginning versions b file is =
    ap (λ (n : ℕ). beginning_fault versions n b.zero b.one) is.length_is
    ∙ ap (λ (z : List ℕ). beginning_fault versions (length file) z b.one) is.zero_is
    ∙ ap (λ (o : List ℕ). beginning_fault versions (length file) (header_place 0 file) o) is.one_is
    ∙ sym (fault_of_long versions file is.room)

pub good_beginning : {H : Type 0} (r : Result Header Refusal) (versions : Versions) (b : ImageStart) (file : List ℕ)
    → (H → IsImageStart b file) → OnOk r (beginning_fault versions b.length b.zero b.one ≡ None)
    → OnOk r (H → first_fault versions file ≡ None)
good_beginning (Ok h) versions b file is good = λ honest. sym (fault-beginning versions b file (is honest)) ∙ good
good_beginning (Err e) versions b file is good = tt

pub fault_of_beginning : {H : Type 0} (r : Result Header Refusal) (versions : Versions) (b : ImageStart)
    (file : List ℕ) → (H → IsImageStart b file)
    → IfErr r (λ e. beginning_fault versions b.length b.zero b.one ≡ Some e)
    → IfErr r (λ e. (e ≡ Device) ⊎ (H → first_fault versions file ≡ Some e))
fault_of_beginning (Ok h) versions b file is fault = tt
fault_of_beginning (Err e) versions b file is fault = inr (λ honest. sym (fault-beginning versions b file (is honest))
    ∙ fault)
