-- What a fuse shows, and which calls it fails.
use Rattle.std.specs.Prelude.{ℕ, ◌+◌, min, Bool, nat_eq, nat_le, Some, None, Option}
use Rattle.im_types.specs.Types.{LAST}
use Rattle.im_disk.specs.declared.fuse.Mode.{Mode, TheVariants.Once, TheVariants.Scar, TheVariants.Stop}
use Rattle.im_disk.specs.Recording.{Recording}

-- a disk with a fuse, as contracts see it
pub record Fused : Type 0 where
  pub disk : Recording
  pub passes : ℕ
  pub mode : Mode
  pub calls : ℕ

-- whether the call after this many others fails
abbrev pub fails_in : Mode → ℕ → ℕ → Bool
fails_in Stop passes calls = nat_le passes calls
fails_in Once passes calls = nat_eq calls passes
fails_in (Scar byte) passes calls = nat_eq calls passes

-- whether the next call fails
abbrev pub fails : Fused → Bool
fails f = fails_in f.mode f.passes f.calls

-- the byte that a failed write puts over its range, if it puts one
abbrev pub scar_of : Mode → Option ℕ
scar_of Stop = None
scar_of Once = None
scar_of (Scar byte) = Some byte

-- a fuse over this disk, before any call
abbrev pub fresh : Recording → ℕ → Mode → Fused
fresh disk passes mode = record { disk = disk; passes = passes; mode = mode; calls = 0 }

-- one more call, with this disk after it
abbrev pub counted : Recording → Fused → Fused
counted disk f = record { disk = disk; passes = f.passes; mode = f.mode; calls = min (f.calls + 1) LAST }
