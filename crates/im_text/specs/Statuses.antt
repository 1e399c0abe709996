-- The exit status of a program that tells its refusals apart. (Own.)
use Rattle.std.specs.Prelude.{ℕ, Bool, ◌&&◌, if◌then◌else◌, ◌==◌}
use Rattle.im_types.specs.Types.{Refusal, Gap, Forgotten, WindowFull, Mismatch, NoElement, NotAnswered, JournalFull}
use Rattle.im_types.specs.Types.{Device, Failed, NoMemory, TraceFull, WrongLength, NoHeader, BadHeader, BadPage}
use Rattle.im_types.specs.Types.{BadRecord, BadLimits, BadScript, Stalled, OffPlan, OldVersion, NotBlank, BadPlan}
use Rattle.im_types.specs.Types.{PaneGone}

-- 5 if a file is no image, is damaged or old, or can't take one: another try is of no use; else 1
abbrev pub status_of_image : Refusal → ℕ
status_of_image Gap = 1
status_of_image Forgotten = 1
status_of_image WindowFull = 1
status_of_image Mismatch = 1
status_of_image NoElement = 1
status_of_image NotAnswered = 1
status_of_image JournalFull = 1
status_of_image Device = 1
status_of_image Failed = 1
status_of_image NoMemory = 1
status_of_image TraceFull = 1
status_of_image WrongLength = 5
status_of_image NoHeader = 5
status_of_image BadHeader = 5
status_of_image BadPage = 5
status_of_image BadRecord = 5
status_of_image BadLimits = 1
status_of_image BadScript = 1
status_of_image Stalled = 1
status_of_image OffPlan = 1
status_of_image OldVersion = 5
status_of_image NotBlank = 5
status_of_image BadPlan = 1
status_of_image PaneGone = 1

-- the status where it is to tell errors of the program that asked: 6 in the place of 0, if a line told one
abbrev pub strict_status : Bool → Bool → ℕ → ℕ
strict_status strict faulted status = if strict && faulted && (status == 0) then 6 else status
