-- No step tells that a call of the disk failed.
use Rattle.std.proofs.Common.{◌≡◌, ◌≤◌, Bool, true, false, Err, refl, arith}
use Rattle.im_types.specs.Types.{Command, Refusal, Gap, Forgotten, WindowFull, Mismatch, NoElement, NotAnswered}
use Rattle.im_types.specs.Types.{JournalFull, Device, Failed, NoMemory, TraceFull, WrongLength, NoHeader, BadHeader}
use Rattle.im_types.specs.Types.{BadPage, BadRecord, BadLimits, BadScript, Stalled, OffPlan, OldVersion, NotBlank}
use Rattle.im_types.specs.Types.{BadPlan, PaneGone, number_of, Contents, step}
use Rattle.im_laws.proofs.RefusalLemmas.{step-refusals}
use Rattle.im_engine.specs.Answered.{is_device}

true_false : (b : Bool) → b ≡ true → b ≡ false → ⊥
true_false b t f = absurd (cc)

device_number : (r : Refusal) → is_device r ≡ true → number_of r ≡ 8
device_number Gap is = absurd (true_false false is refl)
device_number Forgotten is = absurd (true_false false is refl)
device_number WindowFull is = absurd (true_false false is refl)
device_number Mismatch is = absurd (true_false false is refl)
device_number NoElement is = absurd (true_false false is refl)
device_number NotAnswered is = absurd (true_false false is refl)
device_number JournalFull is = absurd (true_false false is refl)
device_number Device is = refl
device_number Failed is = absurd (true_false false is refl)
device_number NoMemory is = absurd (true_false false is refl)
device_number TraceFull is = absurd (true_false false is refl)
device_number WrongLength is = absurd (true_false false is refl)
device_number NoHeader is = absurd (true_false false is refl)
device_number BadHeader is = absurd (true_false false is refl)
device_number BadPage is = absurd (true_false false is refl)
device_number BadRecord is = absurd (true_false false is refl)
device_number BadLimits is = absurd (true_false false is refl)
device_number BadScript is = absurd (true_false false is refl)
device_number Stalled is = absurd (true_false false is refl)
device_number OffPlan is = absurd (true_false false is refl)
device_number OldVersion is = absurd (true_false false is refl)
device_number NotBlank is = absurd (true_false false is refl)
device_number BadPlan is = absurd (true_false false is refl)
device_number PaneGone is = absurd (true_false false is refl)

-- a refusal of a low number tells of none
low_is_none : (e : Refusal) → number_of e ≤ 7 → is_device e ≡ false
low_is_none e few = by_test (is_device e) refl
  where
    by_test : (b : Bool) → is_device e ≡ b → is_device e ≡ false
    by_test true is = let at : number_of e ≡ 8 = device_number e is in absurd (omega (arith, at, few))
    by_test false is = is

pub step-no_device : (m : Contents) (command : Command) (e : Refusal) → (step m command).answer ≡ Err e → is_device e
    ≡ false
step-no_device m command e is = low_is_none e
    (let few : number_of e ≤ 6 = step-refusals m command e is in omega (arith, few))
