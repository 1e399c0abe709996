-- The names of backups. (Own.)
use Rattle.std.proofs.Common.{◌≡◌, ℕ, ◌≤◌, Bool, true, ◌&&◌, ◌||◌, List, length, nat_le, ◌==◌, slice_index_or, arith}
use Rattle.std.proofs.lemmas.Bool.Decides.{nat_tests}
use Rattle.std.specs.{Char.is_ascii_digit, Char.is_ascii_lowercase, List.list_all}
use Rattle.im_laws.proofs.Tests.{and_both}
use Rattle.im_dialogue.specs.Backups.{is_backup_name}

-- a name is short
pub few_in : (word : List ℕ) → is_backup_name word ≡ true → length word ≤ 64
few_in word is =
    let all = list_all (λ c. is_ascii_lowercase c || (is_ascii_digit c || (c == 45 || c == 46))) word in
    let both = and_both (is_ascii_lowercase (slice_index_or word 0 0))
    (nat_le (length word) 64 && all) is in
    let few : nat_le (length word) 64 ≡ true
    = (and_both (nat_le (length word) 64) all both.1).0 in
    grind (arith, nat_tests)
