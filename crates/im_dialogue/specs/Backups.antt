-- Backups: their names, and what of a memory is kept under a name. (Own.)
use Rattle.std.specs.Prelude.{ℕ, min, Bool, ◌&&◌, ◌||◌, List, ◌++◌, length, take, drop, replicate, if◌then◌else◌}
use Rattle.std.specs.Prelude.{nat_le, ◌==◌, slice_index_or, Some, None, Option}
use Rattle.std.specs.{Char.is_ascii_digit, Char.is_ascii_lowercase, List.list_all}
use Rattle.im_types.specs.Types.{Contents}
use Rattle.im_dialogue.specs.declared.backup_name.BackupName.{BackupName}

-- ---- names

-- 1 to 64 characters a to z, 0 to 9, - or ., the first one a letter
abbrev pub is_backup_name : List ℕ → Bool
is_backup_name word = is_ascii_lowercase (slice_index_or word 0 0)
    && (nat_le (length word) 64
    && list_all (λ c. is_ascii_lowercase c || (is_ascii_digit c || (c == 45 || c == 46))) word)

-- the name that these characters are, with zeros behind them
abbrev pub backup_named : List ℕ → BackupName
backup_named word = record { bytes = word ++ drop (length word) (replicate 64 0); length = length word }

-- the name that a word is, if it is one
abbrev pub backup_name_of : List ℕ → Option BackupName
backup_name_of word = if is_backup_name word then Some (backup_named word) else None

-- the characters of a name
abbrev pub bytes_of : BackupName → List ℕ
bytes_of name = take (min name.length 64) name.bytes

-- ---- what is kept

-- a file that is kept under a name: the memory that it means, and the count of that memory's commands
pub record Backup : Type 0 where
  pub name : List ℕ
  pub memory : Contents
  pub count : ℕ
