-- The line of each answer of a dialogue. (Own.)
use Rattle.std.specs.Prelude.{ℕ, ◌+◌, ◌-◌, min, List, [], ◌++◌, length, Ok, Err, codes, decimal, Result}
use Rattle.std.specs.List.{range_with_len}
use Rattle.im_types.specs.Types.{Entry, Kept as KeptEntry, Command, Outcome, Asks, Confirm, Tells, Confirmed, Refusal}
use Rattle.im_types.specs.Types.{Contents, block_at, ask, bounds}
use Rattle.im_checkpoint.specs.declared.TurnDone.TheVariants.{Began, Idle, InForce, Page, Swept, Synced}
use Rattle.im_checkpoint.specs.declared.TurnDone.{TurnDone}
use Rattle.im_text.specs.declared.{OutputLine.TheVariants.Reply, Style.TheVariants.Text}
use Rattle.im_text.specs.{Printing.refused_line, Said.said_in, Texts.entry_text, Texts.line_feed, Texts.op_text}
use Rattle.im_dialogue.specs.{Backups.bytes_of, Counting.addresses_of, declared.backup_name.BackupName.BackupName}
use Rattle.im_dialogue.specs.{declared.backups.BackupFault.BackupFault}
use Rattle.im_dialogue.specs.declared.{about.About.About, answers.LineAnswer.LineAnswer, look.Look.Look}
use Rattle.im_dialogue.specs.declared.answers.LineAnswer.TheVariants.{About as Facts, Backup, Count, Looked, Room}
use Rattle.im_dialogue.specs.declared.answers.LineAnswer.TheVariants.{Served, Turned, Window, Wrong}
use Rattle.im_dialogue.specs.declared.look.Look.TheVariants.{Block, Blocks, Cell, Cells, Collect, Elements}
use Rattle.im_dialogue.specs.declared.look.Look.TheVariants.{Entry as Recalls, Help, Stat, Waiting}
use Rattle.im_dialogue.specs.Showing.{block_said, cell_said, help_line, list_line, recall, shown_at, stat_line}
use Rattle.im_dialogue.specs.Showing.{window_said}
use Rattle.im_dialogue.specs.declared.sort.Sort.TheVariants as sort

-- E.N refused NUMBER NAME
abbrev pub request_refused : ℕ → ℕ → Refusal → List ℕ → List ℕ
request_refused element number refusal name =
    decimal element ++ codes "." ++ decimal number ++ codes " " ++ refused_line refusal name

-- E refused NUMBER NAME
abbrev pub element_refused : ℕ → Refusal → List ℕ → List ℕ
element_refused element refusal name = decimal element ++ codes " " ++ refused_line refusal name

-- E.N REPLY, or E.N refused NUMBER NAME
abbrev pub kept_line : ℕ → ℕ → List ℕ → Result Entry Refusal → List ℕ
kept_line element number name (Ok entry) =
    said_in Text (Reply (record { element = element; number = number; entry = entry }))
kept_line element number name (Err refusal) = request_refused element number refusal name

-- E.N entry OPERATION -> REPLY
abbrev pub operation_line : ℕ → ℕ → KeptEntry → List ℕ
operation_line element number kept = decimal element ++ codes "." ++ decimal number ++ codes " entry "
    ++ op_text kept.op ++ codes " -> " ++ entry_text kept.entry ++ line_feed

-- the same, or E.N refused NUMBER NAME
abbrev pub recalled_line : ℕ → ℕ → List ℕ → Result KeptEntry Refusal → List ℕ
recalled_line element number name (Ok kept) = operation_line element number kept
recalled_line element number name (Err refusal) = request_refused element number refusal name

-- the line of a command: as `collect` says it, or E confirmed UPTO; no request is answered as a confirmation is, and no
-- confirmation as a request is
abbrev pub served_line : List ℕ → Command → Result Outcome Refusal → List ℕ
served_line name (Asks r) (Ok (Tells entry)) = kept_line r.element r.number name (Ok entry)
served_line name (Asks r) (Ok Confirmed) = []
served_line name (Asks r) (Err refusal) = kept_line r.element r.number name (Err refusal)
served_line name (Confirm element upto) (Ok outcome) =
    decimal element ++ codes " confirmed " ++ decimal upto ++ line_feed
served_line name (Confirm element upto) (Err refusal) = element_refused element refusal name

-- E window BASE NEXT
abbrev pub window_line : ℕ → List ℕ → Result (ℕ × ℕ) Refusal → List ℕ
window_line element name (Ok w) = window_said element (Ok w) ++ line_feed
window_line element name (Err refusal) = element_refused element refusal name

-- about version V cells C elements E slots S count N room R: what an image is, and how far it has come
abbrev pub about_line : About → List ℕ
about_line a = codes "about " ++ (codes "version " ++ decimal a.version ++ codes " cells " ++ decimal a.cells)
    ++ (codes " elements " ++ decimal a.elements ++ codes " slots " ++ decimal a.slots)
    ++ (codes " count " ++ decimal a.count ++ codes " room " ++ decimal a.room ++ line_feed)

-- what a turn did
abbrev pub turn_text : TurnDone → List ℕ
turn_text Idle = codes "turn idle"
turn_text Began = codes "turn began"
turn_text (Page page) = codes "turn page " ++ decimal page
turn_text Synced = codes "turn synced"
turn_text InForce = codes "turn inforce"
turn_text Swept = codes "turn swept"

-- backup NAME count N, or backup NAME refused: WORDS
abbrev pub backup_line : BackupName → List ℕ → Result ℕ BackupFault → List ℕ
backup_line name words (Ok count) =
    codes "backup " ++ bytes_of name ++ codes " count " ++ decimal count ++ line_feed
backup_line name words (Err fault) = codes "backup " ++ bytes_of name ++ codes " refused: " ++ words ++ line_feed

-- what a line shows of this memory that only looks
abbrev pub look_text : List ℕ → Contents → Look → List ℕ
look_text name m (Collect who) = kept_line who.element who.number name (ask m.windows who)
look_text name m (Recalls who) = recalled_line who.element who.number name (recall m.windows who)
look_text name m (Cell a) = cell_said m a ++ line_feed
look_text name m (Cells a b) =
    list_line (codes "cells") (cell_said m) (range_with_len a (min (b + 1) (length m.cells) - a))
look_text name m Waiting = list_line (codes "waiting") (shown_at sort.Waiting m) (addresses_of sort.Waiting m)
look_text name m (Block a) = block_said a (block_at m.cells a) ++ line_feed
look_text name m Blocks = list_line (codes "blocks") (shown_at sort.Base m) (addresses_of sort.Base m)
look_text name m Elements =
    list_line (codes "elements") (λ e. window_said e (bounds m.windows e)) (range_with_len 0 (length m.windows))
look_text name m Stat = stat_line m
look_text name m Help = help_line

-- the line of an answer on this memory; the words are the name of its refusal, where a line that isn't in the grammar
-- goes wrong, or why a backup isn't kept
abbrev pub answer_text : List ℕ → Contents → LineAnswer → List ℕ
answer_text name m (Served command outcome) = served_line name command outcome
answer_text name m (Looked look) = look_text name m look
answer_text name m (Window element answer) = window_line element name answer
answer_text name m (Room room) = codes "room " ++ decimal room ++ line_feed
answer_text name m (Turned done) = turn_text done ++ line_feed
answer_text name m (Count count) = codes "count " ++ decimal count ++ line_feed
answer_text name m (Facts about) = about_line about
answer_text name m (Backup backup kept) = backup_line backup name kept
answer_text name m (Wrong number fault) = codes "error " ++ decimal number ++ codes ": " ++ name ++ line_feed
