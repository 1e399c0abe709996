-- What contracts see of an end of a pipe. (Own.)
use Rattle.std.specs.Prelude.{◌≡◌, ◌-◌, Bool, true, false, List, [], ◌∷◌, ◌++◌, map, length, take, Some, None, Option}
use Rattle.atomic_table.specs.{declared.badge.Badge.Badge, Seated.TableId}
use Rattle.crossbeam_channel.specs.{Claims.Pass, declared.flavors.array.Key.Key}
use Rattle.im_pipes.specs.declared.ends.Received.{Received, TheVariants.End, TheVariants.Gone, TheVariants.Item}

-- which pipe it is
pub record PipeId (T : Type 0) : Type 0 where
  pub table : TableId
  pub of : Badge (Key (Option T))

-- an end of a pipe: what was sent into it or received from it, and whether the end mark was
pub record PipeEnd (T : Type 0) : Type 0 where
  pub pipe : PipeId T
  pub items : List T
  pub ended : Bool

-- the pipe of a pass
abbrev pub pipe_of : {T V : Type 0} → Pass (Option T) V → PipeId T
pipe_of pass = record { table = pass.table_id; of = pass.me.0.of }

-- the items among messages
abbrev pub items_of : {T : Type 0} → List (Option T) → List T
items_of [] = []
items_of (Some item ∷ messages) = item ∷ items_of messages
items_of (None ∷ messages) = items_of messages

-- the messages of these items, and the end mark if there is one
abbrev pub messages_of : {T : Type 0} → Bool → List T → List (Option T)
messages_of true items = map Some items ++ None ∷ []
messages_of false items = map Some items

-- what was handed out of the messages that were received, given those that are still held
abbrev pub handed_of : {T : Type 0} → List (Option T) → List (Option T) → List (Option T)
handed_of received held = take (length received - length held) received

-- the two ends of a new pipe
pub record AreNewEnds {T : Type 0} (inlet outlet : PipeEnd T) : Type 0 where
  pub of_one_pipe : inlet.pipe ≡ outlet.pipe
  pub nothing_sent : inlet.items ≡ []
  pub nothing_received : outlet.items ≡ []
  pub is_open : outlet.ended ≡ false

-- what was received, and the end after it: one more item, or the end mark, or nothing
abbrev pub Receives : {T : Type 0} → PipeEnd T → Received T → PipeEnd T → Type 0
Receives old (Item item) new = (new.items ≡ old.items ++ item ∷ []) × (new.ended ≡ false)
Receives old End new = (new.items ≡ old.items) × (new.ended ≡ true)
Receives old Gone new = new ≡ old
