-- A request in a trace. (Own.)
use Rattle.std.specs.Prelude.{◌≡◌, true, List, ◌∷◌, ◌++◌, Ok, Result}
use Rattle.im_types.specs.Types.{Entry, Request, Outcome, Line, Asks, Tells, Commands, Refusal, Contents, WaitingAgrees}
use Rattle.im_types.specs.Types.{asker, is_accepted, IsLegal, end_of}

-- the line that answers a request with this answer
abbrev pub line_answering : Request → Result Outcome Refusal → Line
line_answering r answer = record { call = Commands (Asks r); answer = answer }

-- the line that tells a request this entry
abbrev pub line_telling : Request → Entry → Line
line_telling r entry = line_answering r (Ok (Tells entry))

-- the one line stands in a trace, and the other one somewhere after it
pub record StandBehind (trace : List Line) (one other : Line) : Type 0 where
  pub earlier : List Line
  pub between : List Line
  pub later : List Line
  pub is : trace ≡ earlier ++ (one ∷ (between ++ (other ∷ later)))

-- the memory at the later line
abbrev pub at_other : Contents → {trace : List Line} → {one other : Line} → StandBehind trace one other → Contents
at_other m {trace} {one} {other} it = end_of m (it.earlier ++ (one ∷ it.between))

-- a legal trace tells a request an entry, and later another one
pub record ToldTwice (m : Contents) (trace : List Line) (r : Request) (first second : Entry) : Type 0 where
  pub agrees : WaitingAgrees m
  pub legal : IsLegal m trace
  pub stand : StandBehind trace (line_telling r first) (line_telling r second)

-- two requests under one number stand in a trace, and the first one was accepted there
pub record AskTwice (m : Contents) (trace : List Line) (r again : Request) : Type 0 where
  pub answer : Result Outcome Refusal
  pub other : Result Outcome Refusal
  pub stand : StandBehind trace (line_answering r answer) (line_answering again other)
  pub same : asker again ≡ asker r
  pub accepted : is_accepted (end_of m stand.earlier) (Asks r) ≡ true
