-- Why a caller's bytes aren't read.
use Rattle.std.proofs.Common.{◌≡◌, ℕ, ◌⊎◌, List, Some, Err, sym, subst, inl, inr, ⊎_elim}
use Rattle.im_types.specs.Types.{Refusal, Device, NoMemory, header_fault, layout_in, Reads}
use Rattle.im_c.specs.Telling.{IsFlawOf, IsHeaderFlawOf}

-- what reading an honest disk finds
pub found_fault : (e x : Refusal) (file : List ℕ) → (e ≡ NoMemory) ⊎ (e ≡ Device)
    ⊎ (Unit {0} → Reads (layout_in file) file (Err e)) → x ≡ e → IsFlawOf file x
found_fault e x file found is = subst (λ (r : Refusal). IsFlawOf file r) (sym is)
    (⊎_elim (λ none. inl none) (λ other. inr (⊎_elim (λ failed. inl failed) (λ reads. inr (reads tt)) other)) found)

-- what reading the header of an honest disk finds
pub found_header_fault : (e : Refusal) (file : List ℕ) → (e ≡ Device)
    ⊎ (Unit {0} → header_fault (layout_in file) file ≡ Some e) → IsHeaderFlawOf file e
found_header_fault e file found = inr (⊎_elim (λ failed. inl failed) (λ faulty. inr (faulty tt)) found)
