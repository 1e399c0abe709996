-- The laws, for each list of commands from the empty memory on.
use Rattle.std.proofs.Common.{ℕ, List}
use Rattle.im_types.specs.Types.{I, M, Command, empty_contents, ValueLaw, MatchingLaw}
use Rattle.im_histories.proofs.{AllLives.lawful_lives, FetchLaw.fetch_law, TakeLaw.take_law}

pub every_value_law : (cells elements : ℕ) (commands : List Command) → ValueLaw (empty_contents cells elements) commands
every_value_law cells elements commands = lawful_lives I fetch_law cells elements commands

pub every_matching_law : (cells elements : ℕ) (commands : List Command)
    → MatchingLaw (empty_contents cells elements) commands
every_matching_law cells elements commands = lawful_lives M take_law cells elements commands
