-- The rule of a pipe. (Own.)
use Rattle.std.specs.Prelude.{◌≡◌, ℕ, Bool, true, List, [], ◌∷◌, ◌++◌, Option}
use Rattle.im_pipes.specs.declared.rule.PassLog.{PassLog}
use mathlib.Core.Option.{some}
use lib.ListN.{get_elem?}

module _ {T : Type 0} where
  -- whether a pass may send and may receive, and what was sent and received
  abbrev pub log : Bool → Bool → List (Option T) → List (Option T) → PassLog T
  log sends receives sent received = record { sends = sends; receives = receives; sent = sent; received = received }

  -- after this message was sent
  abbrev pub with_sent : PassLog T → Option T → PassLog T
  with_sent l message = log l.sends l.receives (l.sent ++ message ∷ []) l.received

  -- after this message was received
  abbrev pub with_received : PassLog T → Option T → PassLog T
  with_received l message = log l.sends l.receives l.sent (l.received ++ message ∷ [])

  -- a pass that may send is the writer's, and has the list of what was sent; one that may receive likewise
  abbrev pub Fits : ℕ → ℕ → List (Option T) → List (Option T) → ℕ → PassLog T → Type 0
  Fits writer reader sent received pass l =
      (l.sends ≡ true → (pass ≡ writer) × (l.sent ≡ sent))
      × (l.receives ≡ true → (pass ≡ reader) × (l.received ≡ received))

  -- what was sent is what was received, and then what the pipe holds; one pass at most may send, and one receive
  abbrev pub IsRelayed : List (Option T) → List (PassLog T) → Type 0
  IsRelayed held logs =
      (writer : ℕ) × (reader : ℕ) × (sent : List (Option T)) × (received : List (Option T)) × (sent ≡ received ++ held)
      × ((pass : ℕ) (l : PassLog T) → get_elem? logs pass ≡ some l → Fits writer reader sent received pass l)
