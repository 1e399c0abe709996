-- A log before it has a name, and at its end; the record of its trace. (Own.)
use Rattle.std.specs.Prelude.{◌≡◌, ℕ, ◌+◌, ◌<◌, Bool, true, false, List, [], length, count_by}
use Rattle.im_types.specs.Types.{Line}
use Rattle.im_trace.specs.{Books.LinesBook, Lines.LineCounts}

-- room for a log: how many lines it may have, whether they are recorded, how many ports there are, which ledgers count
-- the lines and the marked lines, and the book of the lines
pub record NewLogState : Type 0 where
  pub limit : ℕ
  pub recorded : Bool
  pub ports : ℕ
  pub lines_name : ℕ
  pub marked_name : ℕ
  pub book : LinesBook

-- a trace with the times of its lines, and how many lines it may have
pub record RecordState : Type 0 where
  pub lines : List Line
  pub times : List ℕ
  pub limit : ℕ

-- a trace at its end with the times of its lines, whether it was recorded at run time, and its book
pub record RecordingState : Type 0 where
  pub items : List Line
  pub times : List ℕ
  pub recorded : Bool
  pub book : LinesBook

-- a recorded trace of no line and of no book
abbrev pub empty_recording : RecordingState
empty_recording = record {
  items = [];
  times = [];
  recorded = true;
  book = record { book = record { number = 0; log_name = 0; cells_name = 0 }; root = 0 };
}

-- a log at its end: whether no line waits, how many shares are back, and how many lines their ports were told
pub record EndedState : Type 0 where
  pub trace : List Line
  pub times : List ℕ
  pub claimed : Bool
  pub back : ℕ
  pub told : LineCounts

-- all lines of a trace are counted if none waits, and fewer if one waits
pub record CountsTrace (marks : Line → Bool) (trace : List Line) (claimed : Bool) (counts : LineCounts) : Type 0 where
  pub lines : claimed ≡ true → counts.lines ≡ length trace
  pub marked : claimed ≡ true → counts.marked ≡ count_by marks trace
  pub fewer : claimed ≡ false → counts.lines < length trace

-- a log at its end after a port's share is back
abbrev pub with_share_back : EndedState → LineCounts → EndedState
with_share_back e tally =
    record e {
      back = e.back + 1;
      told = record { lines = e.told.lines + tally.lines; marked = e.told.marked + tally.marked };
    }
