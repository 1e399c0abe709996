-- The text of a statistic: what an image holds, in one screen of lines, or as one object of JSON. (Own.)
use Rattle.std.specs.Prelude.{ℕ, ◌+◌, ◌-◌, List, [], ◌++◌, if◌then◌else◌, ◌==◌, codes, decimal}
use Rattle.im_types.specs.Types.{Kind, I, M, Contents, layout_named, area_pages, Header}
use Rattle.im_text.specs.Texts.{kind_text, line_feed}
use Rattle.im_report.specs.declared.figures.{FreeFigures.FreeFigures, KindFigures.KindFigures}
use Rattle.im_report.specs.declared.figures.{QueueFigures.QueueFigures, WindowFigures.WindowFigures}
use Rattle.im_report.specs.declared.notation.Notation.{Notation, TheVariants.Json, TheVariants.Lines}
use Rattle.im_report.specs.Figures.{free_figures, kind_figures, queue_figures, window_figures}
use Rattle.im_report.specs.Report.{numbered, opening_lines, three_words}

-- ---- what the header and the journal say

-- the slots of the journal that are neither of the run nor room
abbrev pub stale_slots : Header → ℕ → ℕ → ℕ
stale_slots h run room = h.sizes.slots - run - room

-- the area that the next checkpoint writes
abbrev pub area_written : Header → ℕ
area_written h = if h.area == 0 then 1 else 0

-- the pages of an area: after an opening, the first checkpoint writes them all
abbrev pub pages_written : Header → ℕ
pages_written h = area_pages (layout_named h.version) h.sizes

-- ---- lines

-- the slots of the journal
abbrev pub slots_line : Header → ℕ → ℕ → List ℕ
slots_line h run room = three_words (codes "journal ") run (codes " room ") room
    (codes " stale ") (stale_slots h run room) line_feed

-- the commands so far: those that the area holds, and those of the run
abbrev pub count_line : Header → ℕ → List ℕ
count_line h run = codes "count " ++ decimal (h.count + run) ++ line_feed

-- what the next checkpoint writes; nothing writes to an image of the first version
abbrev pub next_line : Header → List ℕ
next_line h =
    if h.version == 1 then []
    else codes "next area " ++ decimal (area_written h) ++ codes " pages " ++ decimal (pages_written h) ++ line_feed

-- the blocks of one kind, and their empty cells
abbrev pub blocks_part : Kind → KindFigures → List ℕ
blocks_part kind f = kind_text kind ++ numbered (codes " blocks ") f.blocks ++ numbered (codes " empty ") f.empty

-- their other cells
abbrev pub states_part : KindFigures → List ℕ
states_part f = three_words (codes " waiting ") f.waiting (codes " full ") f.full
    (codes " clashed ") f.clashed line_feed

-- the blocks of one kind, and their cells in each state
abbrev pub kind_line : Kind → KindFigures → List ℕ
kind_line kind f = blocks_part kind f ++ states_part f

-- the cells in no block
abbrev pub free_line : FreeFigures → List ℕ
free_line f = three_words (codes "free ") f.cells (codes " holes ") f.holes
    (codes " longest ") f.longest line_feed

-- the requests that wait
abbrev pub queue_line : QueueFigures → List ℕ
queue_line f = three_words (codes "waiting ") f.requests (codes " longest ") f.longest
    (codes " at ") f.at line_feed

-- the windows
abbrev pub windows_line : WindowFigures → List ℕ
windows_line f = three_words (codes "windows ") f.asked (codes " kept ") f.kept (codes " full ") f.full line_feed

-- the lines of the cells in no block, of the requests that wait and of the windows
abbrev pub figures_lines : Contents → List ℕ
figures_lines m = free_line (free_figures m) ++ queue_line (queue_figures m) ++ windows_line (window_figures m)

-- the lines of the header and the journal
abbrev pub stat_head : Header → ℕ → ℕ → List ℕ
stat_head h run room = opening_lines h ++ slots_line h run room ++ count_line h run ++ next_line h

-- the lines of the memory
abbrev pub stat_memory : Contents → List ℕ
stat_memory m = kind_line I (kind_figures m I) ++ kind_line M (kind_figures m M) ++ figures_lines m

-- ---- the object of JSON: a number that may pass 2^53 is a string

-- the version and the sizes
abbrev pub sizes_json : Header → List ℕ
sizes_json h = numbered (codes "{\"version\":") h.version ++ numbered (codes ",\"limits\":{\"cells\":") h.sizes.cells
    ++ numbered (codes ",\"elements\":") h.sizes.elements ++ numbered (codes ",\"slots\":") h.sizes.slots ++ codes "}"

-- the header in force
abbrev pub header_json : Header → List ℕ
header_json h = three_words (codes ",\"header\":{\"area\":") h.area (codes ",\"generation\":\"") h.generation
    (codes "\",\"count\":\"") h.count (codes "\"}")

-- the slots of the journal
abbrev pub slots_json : Header → ℕ → ℕ → List ℕ
slots_json h run room = three_words (codes ",\"journal\":{\"run\":") run (codes ",\"room\":") room
    (codes ",\"stale\":") (stale_slots h run room) (codes "}")

-- the commands so far
abbrev pub count_json : Header → ℕ → List ℕ
count_json h run = codes ",\"count\":\"" ++ decimal (h.count + run) ++ codes "\""

-- an area, and how many pages of it are written
abbrev pub pages_json : ℕ → ℕ → List ℕ
pages_json area pages = numbered (codes ",\"next\":{\"area\":") area ++ numbered (codes ",\"pages\":") pages
    ++ codes "}"

-- what the next checkpoint writes; nothing writes to an image of the first version
abbrev pub next_json : Header → List ℕ
next_json h = if h.version == 1 then codes ",\"next\":null" else pages_json (area_written h) (pages_written h)

-- the blocks of one kind, and their empty cells
abbrev pub blocks_json : Kind → KindFigures → List ℕ
blocks_json kind f = codes ",\"" ++ kind_text kind ++ numbered (codes "\":{\"blocks\":") f.blocks
    ++ numbered (codes ",\"empty\":") f.empty

-- their other cells
abbrev pub states_json : KindFigures → List ℕ
states_json f = three_words (codes ",\"waiting\":") f.waiting (codes ",\"full\":") f.full
    (codes ",\"clashed\":") f.clashed (codes "}")

-- the blocks of one kind, and their cells in each state
abbrev pub kind_json : Kind → KindFigures → List ℕ
kind_json kind f = blocks_json kind f ++ states_json f

-- the cells in no block
abbrev pub free_json : FreeFigures → List ℕ
free_json f = three_words (codes ",\"free\":{\"cells\":") f.cells (codes ",\"holes\":") f.holes
    (codes ",\"longest\":") f.longest (codes "}")

-- the requests that wait
abbrev pub queue_json : QueueFigures → List ℕ
queue_json f = three_words (codes ",\"waiting\":{\"requests\":") f.requests (codes ",\"longest\":") f.longest
    (codes ",\"at\":") f.at (codes "}")

-- the windows, and the end of the object
abbrev pub window_json : WindowFigures → List ℕ
window_json f = three_words (codes ",\"windows\":{\"asked\":") f.asked (codes ",\"kept\":") f.kept
    (codes ",\"full\":") f.full (codes "}}\n")

-- the cells in no block, the requests that wait and the windows, and the end of the object
abbrev pub figures_json : Contents → List ℕ
figures_json m = free_json (free_figures m) ++ queue_json (queue_figures m) ++ window_json (window_figures m)

-- the members of the header and the journal
abbrev pub head_json : Header → ℕ → ℕ → List ℕ
head_json h run room = sizes_json h ++ header_json h ++ slots_json h run room ++ count_json h run ++ next_json h

-- the members of the memory
abbrev pub memory_json : Contents → List ℕ
memory_json m = kind_json I (kind_figures m I) ++ kind_json M (kind_figures m M) ++ figures_json m

-- ---- all of it

-- all lines, or the whole object on one line
abbrev pub stat_text : Notation → Header → ℕ → ℕ → Contents → List ℕ
stat_text Lines h run room m = stat_head h run room ++ stat_memory m
stat_text Json h run room m = head_json h run room ++ memory_json m
