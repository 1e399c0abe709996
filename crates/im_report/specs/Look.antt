-- What is printed of an image, by what a person wants to see. (Own.)
use Rattle.std.specs.Prelude.{◌≡◌, ℕ, ◌+◌, Bool, true, false, not, ◌&&◌, ◌||◌, List, [], ◌++◌, length, is_some, is_none}
use Rattle.std.specs.Prelude.{if◌then◌else◌, nat_le, ◌==◌, slice_get, Some, None, Ok, Option}
use Rattle.std.specs.Io.KnownBytes.{Appends}
use Rattle.im_types.specs.Types.{Contents, held_at, waiters_at, presence_in, Cell, Header, header_of, layout_in, Reads}
use Rattle.{im_disk.specs.declared.Disk.Ghosts, im_text.specs.Texts.texts_below}
use Rattle.im_report.specs.declared.look.{Filter.Filter, Span.Span, View.View}
use Rattle.im_report.specs.declared.look.View.TheVariants.{DumpJson, Report, ReportJson, Stat, StatJson}
use Rattle.im_report.specs.declared.notation.Notation.{Notation, TheVariants.Json, TheVariants.Lines}
use Rattle.im_report.specs.{Figures.cell_tag, ReportJson.dump_json, ReportJson.report_head, Stat.stat_text}
use Rattle.im_report.specs.Report.{cell_line, contents_text, journal_line, opening_lines, window_text}

-- a filter that asks for nothing
abbrev pub is_whole : Filter → Bool
is_whole f = is_none f.cells && is_none f.element && not f.waiting

-- an address lies in a span; each does if there is none
abbrev pub lies_in : ℕ → Option Span → Bool
lies_in a None = true
lies_in a (Some s) = nat_le s.from a && nat_le a s.to

-- somebody waits for a cell
abbrev pub is_awaited : Option Cell → Bool
is_awaited None = false
is_awaited (Some cell) = cell_tag cell == 1

-- a filter that asks for cells names the line of this one
abbrev pub names_cell : Filter → ℕ → Option Cell → Bool
names_cell f a cell = (is_some f.cells || f.waiting) && lies_in a f.cells && (not f.waiting || is_awaited cell)

-- a filter names the lines of an element
abbrev pub names_element : Option ℕ → ℕ → Bool
names_element None k = false
names_element (Some element) k = element == k

-- a text, if it is wanted
abbrev pub text_if : Bool → List ℕ → List ℕ
text_if wanted text = if wanted then text else []

-- the lines of the cells that a filter names, by address
abbrev pub named_cells : Notation → Filter → Contents → List ℕ
named_cells notation f m = texts_below (λ a. text_if (names_cell f a (presence_in (held_at m.cells a)))
    (cell_line notation a (presence_in (held_at m.cells a)) (waiters_at m.cells a))) (length m.cells)

-- the lines of the element that a filter names
abbrev pub named_elements : Notation → Filter → Contents → List ℕ
named_elements notation f m = texts_below (λ k. text_if (names_element f.element k)
    (window_text notation k (slice_get m.windows k))) (length m.windows)

-- the header and the journal
abbrev pub whole_head : Notation → Header → ℕ → ℕ → List ℕ
whole_head Lines h run room = opening_lines h ++ journal_line run room
whole_head Json h run room = report_head h run room

-- the whole report
abbrev pub whole_text : Notation → Header → ℕ → ℕ → Contents → List ℕ
whole_text notation h run room m = whole_head notation h run room ++ contents_text notation m

-- the lines of a report that a filter names
abbrev pub filtered_text : Notation → Filter → Header → ℕ → ℕ → Contents → List ℕ
filtered_text notation f h run room m =
    if is_whole f then whole_text notation h run room m else named_cells notation f m ++ named_elements notation f m

-- what is printed
abbrev pub looked_text : View → Header → ℕ → ℕ → Contents → List ℕ
looked_text (Report f) h run room m = filtered_text Lines f h run room m
looked_text (ReportJson f) h run room m = filtered_text Json f h run room m
looked_text Stat h run room m = stat_text Lines h run room m
looked_text StatJson h run room m = stat_text Json h run room m
looked_text DumpJson h run room m = dump_json h run m

-- The bytes of a file mean a memory, and what is wanted of it, with the header in force, was written.
pub record ShowsView (look : View) (file : List ℕ) (was now : Option (List ℕ)) : Type 0 where
  pub memory : Contents
  pub run : ℕ
  pub room : ℕ
  pub reads : Reads (layout_in file) file
      (Ok (record { contents = memory; count = (header_of file).count + run; room = room }))
  pub added : Appends was now (looked_text look (header_of file) run room memory)

-- a run over a disk that ended with status 0 wrote what is wanted of the disk's bytes; that is known only if the disk
-- is honest at the end
abbrev pub ShowsAt : {D : Type 0} → Ghosts D → View → D → D → ℕ → Option (List ℕ) → Option (List ℕ) → Type 0
ShowsAt disk look old new status was now =
    disk.honest new → status ≡ 0 → ShowsView look (disk.now old).bytes was now
