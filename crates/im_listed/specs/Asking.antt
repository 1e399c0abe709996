-- What is asked of an image: its numbers, and a chain of groups from the front.
use Rattle.std.specs.Prelude.{◌≡◌, ℕ, ◌-◌, min, Bool, true, ◌&&◌, ◌⊎◌, List, [], ◌∷◌, ◌++◌, length, take, drop, ◌==◌}
use Rattle.std.specs.Prelude.{Ok, Err, Result}
use Rattle.im_types.specs.Types.{Op, Command, Asks, Confirm as Confirms, Refusal, WindowFull, Device, MAX_GROUP, bounds}
use Rattle.{im_groups.specs.Commands.places, im_engine.specs.Commands.answers_in_turn}
use Rattle.im_asks.specs.Behind.{bounds_reckoned, IsPlaceUpTo}
use Rattle.im_asks.specs.declared.WindowPlace.{TheVariants.Confirm, TheVariants.Full, TheVariants.Next, WindowPlace}
use Rattle.im_front.specs.declared.{AskedCommand.AskedCommand, ToldAnswer.ToldAnswer}
use Rattle.im_front.specs.Lists.{answers_told, asks_told, commands_asked, with_ticket}
use Rattle.im_listed.specs.Image.{begun_in, ImageState, PutsAhead}

-- the image, with this asked behind all that is asked
abbrev pub asked_too : ImageState → List AskedCommand → ImageState
asked_too s more = record s { asked = s.asked ++ more }

-- how many are asked behind those that are ahead
abbrev pub many_behind : ImageState → ℕ
many_behind s = length s.asked - length s.engine.ahead

-- what can be put ahead next: a group of those that are asked behind those that are ahead
abbrev pub next_group : ImageState → List Command
next_group s = take MAX_GROUP (drop (length s.engine.ahead) (commands_asked s.asked))

-- the bounds that an element's window has behind what is asked, or the refusal
abbrev pub window_behind : ImageState → ℕ → Result (ℕ × ℕ) Refusal
window_behind s element = bounds_reckoned element (commands_asked s.asked) (bounds s.engine.memory.windows element)

-- the confirmation that comes before a request: its ticket is 0
abbrev pub confirmed_before : ℕ → WindowPlace → List AskedCommand
confirmed_before element (Next number) = []
confirmed_before element (Confirm base upto) = with_ticket 0 (Confirms element upto) ∷ []
confirmed_before element Full = []

-- A request of an element was asked under its next number, behind the confirmation of a full window. Its entries from
-- `most` on are kept.
pub record AsksNext (old : ImageState) (ticket element : ℕ) (op : Op) (most number : ℕ)
    (new : ImageState) : Type 0 where
  pub base : ℕ
  pub place : WindowPlace
  pub behind : window_behind old element ≡ Ok (base, number)
  pub stands : IsPlaceUpTo old.engine.memory element most (base, number) place
  pub some : place ≡ Full → ⊥
  pub asked : new ≡ asked_too old (confirmed_before element place
      ++ with_ticket ticket (Asks (record { element = element; number = number; op = op })) ∷ [])

-- why a request isn't asked: a lost step, no such element, or a full window of which nothing can be confirmed
abbrev pub IsNotNext : ImageState → ℕ → ℕ → Refusal → Type 0
IsNotNext s element most refusal =
    ((s.lost ≡ true) × (refusal ≡ Device)) ⊎ (window_behind s element ≡ Err refusal)
    ⊎ ((refusal ≡ WindowFull)
    × (b : ℕ × ℕ) × (window_behind s element ≡ Ok b) × IsPlaceUpTo s.engine.memory element most b Full)

-- Those that were ahead are told, and the next ones that are asked are ahead.
pub record GoesOn (old : ImageState) (result : Result ℕ Refusal) (told : List ToldAnswer)
    (new : ImageState) : Type 0 where
  -- what was asked first is told first, and the others are still asked
  pub order : old.asked ≡ asks_told told ++ new.asked
  -- each that was ahead is told, and nothing else
  pub acted : commands_asked (asks_told told) ≡ old.engine.ahead
  -- their answers, how many are ahead now, and what the file means on the way
  pub puts : PutsAhead old (next_group old) result (answers_told told) new

-- nothing is ahead, and there is no place for more
abbrev pub has_no_room : ImageState → Bool
has_no_room s = (length s.engine.ahead == 0) && (places s.engine.count s.engine.room == 0)

-- The first that is asked is answered alone, where it finds no place: a repeat as before, and `JournalFull` if it would
-- change the memory. Nothing else changes, and no step is left.
pub record AnswersFirst (old : ImageState) (told : List ToldAnswer) (new : ImageState) : Type 0 where
  pub order : old.asked ≡ asks_told told ++ new.asked
  pub some : length told ≡ min 1 (length old.asked)
  pub answers : answers_told told ≡ answers_in_turn (begun_in old) (commands_asked (asks_told told))
  pub same : new ≡ record old { engine = begun_in old; asked = new.asked }
