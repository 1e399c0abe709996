-- What a port has seen of the trace, when a call of it has left its line.
use Rattle.std.proofs.Common.{◌≡◌, ℕ, ◌<◌, ◌≤◌, Bool, true, false, ◌⊎◌, List, [], ◌++◌, length, Some, Err, Result, sym}
use Rattle.std.proofs.Common.{refl, ap, ◌∙◌, inl, inr, append-nil}
use Rattle.im_types.specs.Types.{Entry, Line, Collect, Refusal, Stalled, told}
use Rattle.im_laws.proofs.Tests.{below_or_from}
use Rattle.im_trace.specs.{Lines.GoesOnTo, Lines.left_lines, Lines.LineCounts, Log.LogState}
use Rattle.im_controller.specs.{Lends.Looks, State.SharedState, Waits.SeesFound}
use mathlib.Core.List.{IsPrefix}

-- what was a prefix before a call goes on to its line
pub goes-on : (seen trace last trace' : List Line) → IsPrefix seen trace → trace' ≡ trace ++ last
    → GoesOnTo seen last trace'
goes-on seen trace last trace' p is = (p.0, is ∙ ap (λ ls. ls ++ last) (sym p.1))

same-trace : {D : Type 0} (s s' : SharedState D) (last : List Line) → s' ≡ s → last ≡ []
    → s'.log.trace ≡ s.log.trace ++ last
same-trace s s' last same none = ap (λ t. t.log.trace) same ∙ sym (append-nil s.log.trace)
    ∙ ap (λ ls. s.log.trace ++ ls) (sym none)

module _ {D : Type 0} (marks : Line → Bool) (s s' : SharedState D) (t t' : LineCounts) (e n : ℕ)
    (a : Result Entry Refusal) (l : Looks marks s t e n a s' t') where
  abbrev found : Result Entry Refusal → List Line
  found b = left_lines (Collect e n) (told b)

  looks-alive : s.session.engine.failed ≡ false
      → (length s.log.trace < s.log.limit) ⊎ (s.log.limit ≤ length s.log.trace)
      → s'.log.trace ≡ s.log.trace ++ found a
  looks-alive alive (inl room) = ap (λ (k : LogState). k.trace) (l.found alive room).1.log
  looks-alive alive (inr over) = let is = l.full alive over in same-trace s s' (found a) is.1 (ap found is.0)

  looks-by : (failed : Bool) → s.session.engine.failed ≡ failed → s'.log.trace ≡ s.log.trace ++ found a
  looks-by true dead = let is = l.dead dead in same-trace s s' (found a) is.1 (ap found is.0)
  looks-by false alive = looks-alive alive (below_or_from (length s.log.trace) s.log.limit)

  pub looks-trace : s'.log.trace ≡ s.log.trace ++ left_lines (Collect e n) (told a)
  looks-trace = looks-by s.session.engine.failed refl

-- a port that is refused with no line may see more of the trace
pub sees-more : (seen seen' : List Line) (e n : ℕ) (refusal : Refusal) → refusal ≡ Stalled → IsPrefix seen seen'
    → SeesFound seen e n (Some (Err refusal)) seen'
sees-more seen seen' e n refusal is p = rw is ((p.0, sym p.1 ∙ sym (append-nil (seen ++ p.0))), tt)
