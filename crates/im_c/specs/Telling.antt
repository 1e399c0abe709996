-- Faults, texts and names, for C.
use Rattle.std.specs.Prelude.{◌≡◌, ℕ, ◌<◌, ◌≤◌, ◌⊎◌, List, [], ◌++◌, length, drop, if◌then◌else◌, ◌==◌, Some, Err}
use Rattle.std.specs.Prelude.{codes}
use Rattle.im_types.specs.Types.{Refusal, Gap, Forgotten, WindowFull, Mismatch, NoElement, NotAnswered, JournalFull}
use Rattle.im_types.specs.Types.{Device, Failed, NoMemory, TraceFull, WrongLength, NoHeader, BadHeader, BadPage}
use Rattle.im_types.specs.Types.{BadRecord, BadLimits, BadScript, Stalled, OffPlan, OldVersion, NotBlank, BadPlan}
use Rattle.im_types.specs.Types.{PaneGone, number_of, header_fault, layout_in, Reads}
use Rattle.{im_listed.specs.Image.IsFaultOf, im_report.specs.Inspecting.Tells}

-- the number of the refusal of these bytes: their first fault, or want of memory
abbrev pub TellsFault : List ℕ → ℕ → Type 0
TellsFault file number = (refusal : Refusal) × (number ≡ number_of refusal) × IsFaultOf file refusal

-- why these bytes aren't read, by the rules of their own version: their first fault, or want of memory for them or for
-- a step
abbrev pub IsFlawOf : List ℕ → Refusal → Type 0
IsFlawOf file refusal = (refusal ≡ NoMemory) ⊎ (refusal ≡ Device) ⊎ Reads (layout_in file) file (Err refusal)

-- the number of the refusal to read these bytes
abbrev pub TellsFlaw : List ℕ → ℕ → Type 0
TellsFlaw file number = (refusal : Refusal) × (number ≡ number_of refusal) × IsFlawOf file refusal

-- why the sizes of these bytes aren't read: the first fault of length and headers, or want of memory
abbrev pub IsHeaderFlawOf : List ℕ → Refusal → Type 0
IsHeaderFlawOf file refusal =
    (refusal ≡ NoMemory) ⊎ (refusal ≡ Device) ⊎ (header_fault (layout_in file) file ≡ Some refusal)

-- the number of the refusal to read the sizes of these bytes
abbrev pub TellsHeaderFlaw : List ℕ → ℕ → Type 0
TellsHeaderFlaw file number = (refusal : Refusal) × (number ≡ number_of refusal) × IsHeaderFlawOf file refusal

-- a buffer begins with a text if the text fits; else it stays
pub record PutsText (text old new : List ℕ) : Type 0 where
  pub fits : length text ≤ length old → new ≡ text ++ drop (length text) old
  pub other : length old < length text → new ≡ old

-- the report of these bytes has this length, and is put into a buffer
pub record IsReported (file : List ℕ) (count : ℕ) (old new : List ℕ) : Type 0 where
  pub text : List ℕ
  pub tells : Tells file (Some []) (Some text)
  pub whole : count ≡ length text
  pub put : PutsText text old new

-- the name of the refusal with this number; the last two are C's own
abbrev pub refusal_name : ℕ → List ℕ
refusal_name number =
    if number == number_of Gap then codes "Gap"
    else if number == number_of Forgotten then codes "Forgotten"
    else if number == number_of WindowFull then codes "WindowFull"
    else if number == number_of Mismatch then codes "Mismatch"
    else if number == number_of NoElement then codes "NoElement"
    else if number == number_of NotAnswered then codes "NotAnswered"
    else if number == number_of JournalFull then codes "JournalFull"
    else if number == number_of Device then codes "Device"
    else if number == number_of Failed then codes "Failed"
    else if number == number_of NoMemory then codes "NoMemory"
    else if number == number_of TraceFull then codes "TraceFull"
    else if number == number_of WrongLength then codes "WrongLength"
    else if number == number_of NoHeader then codes "NoHeader"
    else if number == number_of BadHeader then codes "BadHeader"
    else if number == number_of BadPage then codes "BadPage"
    else if number == number_of BadRecord then codes "BadRecord"
    else if number == number_of BadLimits then codes "BadLimits"
    else if number == number_of BadScript then codes "BadScript"
    else if number == number_of Stalled then codes "Stalled"
    else if number == number_of OffPlan then codes "OffPlan"
    else if number == number_of OldVersion then codes "OldVersion"
    else if number == number_of NotBlank then codes "NotBlank"
    else if number == number_of BadPlan then codes "BadPlan"
    else if number == number_of PaneGone then codes "PaneGone"
    else if number == 254 then codes "Unserved"
    else if number == 255 then codes "NoCall"
    else codes ""

-- the name of the answer with this tag
abbrev pub answer_name : ℕ → List ℕ
answer_name tag =
    if tag == 0 then codes "Waiting"
    else if tag == 1 then codes "Base"
    else if tag == 2 then codes "NoSpace"
    else if tag == 3 then codes "BadLength"
    else if tag == 4 then codes "Value"
    else if tag == 5 then codes "Stored"
    else if tag == 6 then codes "Clash"
    else if tag == 7 then codes "NoCell"
    else if tag == 8 then codes "WrongKind"
    else if tag == 9 then codes "Released"
    else if tag == 10 then codes "NoBlock"
    else if tag == 11 then codes "StillWaiting"
    else if tag == 12 then codes "Cleared"
    else if tag == 128 then codes "Confirmed"
    else codes ""
