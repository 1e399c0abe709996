-- What the words of the command line ask for. (Own.)
use Rattle.std.specs.Prelude.{ℕ, Bool, true, false, List, [], ◌∷◌, map, if◌then◌else◌, nat_le, Some, None, codes}
use Rattle.std.specs.Prelude.{bytes_eq, Option, unwrap_or, option_map, option_and_then}
use Rattle.clap.specs.declared.builder.action.ArgAction.TheVariants.{SetTrue}
use Rattle.clap.specs.Words.{App, first_of, new_app, new_rule, Row, Rule, subcommand_of, Text, with_rule}
use Rattle.clap.specs.Words.{with_subcommand}
use Rattle.std.specs.{Borrow.Bor, Option.option_map_or}
use Rattle.im_migration.specs.declared.Asked.{Asked}
use Rattle.im_script.specs.Grammar.{number_up_to, span_in}
use Rattle.im_text.specs.declared.Style.{Style, TheVariants.Json, TheVariants.Quiet, TheVariants.Text as InText}
use Rattle.im_report.specs.declared.{Filter.Filter, Span.Span, View.View}
use Rattle.im_report.specs.declared.View.TheVariants.{DumpJson, Report, ReportJson, Stat, StatJson}
use Rattle.im_words.specs.declared.{table.TheConstants.COMMON, table.TheConstants.SUBCOMMANDS, words.Work.Work}
use Rattle.im_words.specs.declared.words.Work.TheVariants.{Copy, Demonstration, Dump, Format, Inspect, Load, Migrate}
use Rattle.im_words.specs.declared.words.Work.TheVariants.{Run, Serial, Serve}

-- ---- what the parser knows of the command line

-- an option that takes a number or a path
abbrev pub option_rule : Text → Rule
option_rule id = record (new_rule id) { long = Some id; value_names = 1 }

-- a flag: an option without a value
abbrev pub flag_rule : Text → Rule
flag_rule id = record (new_rule id) { long = Some id; action = Some SetTrue }

-- a required path
abbrev pub path_rule : Text → Rule
path_rule id = record (new_rule id) { required = true }

-- an option by its name: with a value, if that has a name
abbrev pub option_by : Text → Option Text → Rule
option_by id None = flag_rule id
option_by id (Some value) = option_rule id

-- a path or an option of the table: its name, and that of its value, if it has one
abbrev pub WordRow : Type 0
WordRow = Text × Option Text

-- the one or the other
abbrev pub argument_in : Bool → WordRow → Rule
argument_in is_path word = if is_path then path_rule word.0 else option_by word.0 word.1

-- a subcommand of the table: its name, its paths, and its options
abbrev pub SubcommandRow : Type 0
SubcommandRow = Text × List WordRow × List WordRow

-- the texts of a row's references
abbrev pub word_row : Bor Text × Option (Bor Text) × Bor Text → WordRow
word_row word = (word.0.now, option_map (λ value. value.now) word.1)

-- the same of a subcommand
abbrev pub subcommand_row : Bor Text × Bor Text × Bor (List (Bor Text × Option (Bor Text) × Bor Text))
    × Bor (List (Bor Text × Option (Bor Text) × Bor Text)) → SubcommandRow
subcommand_row row = (row.0.now, map word_row row.2.now, map word_row row.3.now)

-- the options of each subcommand
abbrev pub common_words : List WordRow
common_words = map (λ word. (word.0.now, option_map (λ value. value.now) word.1)) COMMON

-- the subcommands
abbrev pub table_rows : List SubcommandRow
table_rows = map (λ row. (
  row.0.now,
  map (λ word. (word.0.now, option_map (λ value. value.now) word.1)) row.2.now,
  map (λ word. (word.0.now, option_map (λ value. value.now) word.1)) row.3.now,
)) SUBCOMMANDS

-- a command that takes these paths or options too
unfoldable pub with_words : Bool → App → List WordRow → App
with_words is_path app [] = app
with_words is_path app (word ∷ words) = with_words is_path (with_rule app (argument_in is_path word)) words

-- a subcommand: it takes the options of each, its paths, and its own options
abbrev pub app_in : SubcommandRow → App
app_in row =
    with_words false (with_words true (with_words false (new_app row.0) common_words) row.1) row.2

-- a command that takes these subcommands too
unfoldable pub with_subcommands : App → List SubcommandRow → App
with_subcommands app [] = app
with_subcommands app (row ∷ rows) = with_subcommands (with_subcommand app (app_in row).top) rows

-- a command with `--version`
abbrev pub with_version : App → App
with_version app = record app { top = record app.top { has_version = true } }

-- imem with no subcommand
abbrev pub top_app : App
top_app = with_version (new_app (codes "imem"))

-- imem, alone or with one of the table's subcommands
unfoldable pub imem_app : App
imem_app = with_subcommands top_app table_rows

-- ---- what is asked for

-- the same work, with the texts of its paths
abbrev pub texts_in : Work (Bor Text) → Work Text
texts_in Demonstration = Demonstration
texts_in (Format it) = Format (record {
  image = it.image.now;
  cells = it.cells;
  elements = it.elements;
  slots = it.slots;
  is_new = it.is_new;
})
texts_in (Serial it) = Serial (record {
  image = it.image.now;
  script = it.script.now;
  once = it.once;
  strict = it.strict;
  style = it.style;
})
texts_in (Run it) = Run (record {
  image = it.image.now;
  script = it.script.now;
  planned = it.planned;
  once = it.once;
  strict = it.strict;
  style = it.style;
  trace = option_map (λ path. path.now) it.trace;
})
texts_in (Serve it) = Serve (record {
  image = it.image.now;
  watch = it.watch;
  backups = option_map (λ path. path.now) it.backups;
  verbose = it.verbose;
})
texts_in (Inspect it) = Inspect (record { image = it.image.now; look = it.look })
texts_in (Dump it) = Dump (record { image = it.image.now; damaged = it.damaged })
texts_in (Load it) = Load (record { from = it.from.now; new = it.new.now; asked = it.asked })
texts_in (Migrate it) = Migrate (record { old = it.old.now; new = it.new.now })
texts_in (Copy it) = Copy (record { from = it.from.now; new = it.new.now; asked = it.asked })

-- the number that a text gives, in decimal digits below 2^32
abbrev pub given_number : Text → Option (Option ℕ)
given_number text = option_map Some (number_up_to 4294967295 text)

-- an option's number, if it is given, in decimal digits below 2^32
abbrev pub given_in : List Row → Text → Option (Option ℕ)
given_in rows id = option_map_or given_number (first_of id rows) (Some None)

-- the sizes that are given, if each is in decimal digits below 2^32
abbrev pub sizes_given : List Row → Option Asked
sizes_given rows = option_and_then (λ cells. option_and_then (λ elements.
    option_map (λ slots. record { cells = cells; elements = elements; slots = slots })
    (given_in rows (codes "slots"))) (given_in rows (codes "elements"))) (given_in rows (codes "cells"))

-- a path's text
abbrev pub path_in : List Row → Text → Text
path_in rows id = unwrap_or (first_of id rows) []

-- whether a flag is given: its text is then `true`
abbrev pub is_given : List Row → Text → Bool
is_given rows id = bytes_eq (path_in rows id) (codes "true")

-- what format is asked for, if each size that is given is in decimal digits below 2^32
abbrev pub format_work : List Row → Option (Work Text)
format_work rows = option_map (λ asked. Format (record {
  image = path_in rows (codes "IMAGE");
  cells = unwrap_or asked.cells 4096;
  elements = unwrap_or asked.elements 16;
  slots = unwrap_or asked.slots 256;
  is_new = is_given rows (codes "new");
})) (sizes_given rows)

-- how lines are said, by whether it is quiet and whether it is in JSON; it can't be both
abbrev pub style_with : Bool → Bool → Option Style
style_with false false = Some InText
style_with true false = Some Quiet
style_with false true = Some Json
style_with true true = None

-- how the lines of a script are said
abbrev pub style_given : List Row → Option Style
style_given rows = style_with (is_given rows (codes "quiet")) (is_given rows (codes "json"))

-- what serial is asked for, if it says how lines are said
abbrev pub serial_work : List Row → Option (Work Text)
serial_work rows = option_map (λ style. Serial (record {
  image = path_in rows (codes "IMAGE");
  script = path_in rows (codes "SCRIPT");
  once = is_given rows (codes "once");
  strict = is_given rows (codes "strict");
  style = style;
})) (style_given rows)

-- what run is asked for, if it says how lines are said
abbrev pub run_work : List Row → Option (Work Text)
run_work rows = option_map (λ style. Run (record {
  image = path_in rows (codes "IMAGE");
  script = path_in rows (codes "SCRIPT");
  planned = is_given rows (codes "planned");
  once = is_given rows (codes "once");
  strict = is_given rows (codes "strict");
  style = style;
  trace = first_of (codes "trace") rows;
})) (style_given rows)

-- what serve is asked for
abbrev pub serve_work : List Row → Work Text
serve_work rows = Serve (record {
  image = path_in rows (codes "IMAGE");
  watch = is_given rows (codes "watch");
  backups = first_of (codes "backups") rows;
  verbose = is_given rows (codes "verbose");
})

-- the addresses that a text gives
abbrev pub span_given : Text → Option (Option Span)
span_given text = option_map (λ s. Some (record { from = s.0; to = s.1 })) (span_in text)

-- the addresses that are given for cells, if they are right
abbrev pub given_cells : List Row → Option (Option Span)
given_cells rows = option_map_or span_given (first_of (codes "cells") rows) (Some None)

-- the filter of inspect, if what is given is right
abbrev pub filter_in : List Row → Option Filter
filter_in rows = option_and_then (λ cells. option_map (λ element.
    record { cells = cells; element = element; waiting = is_given rows (codes "waiting") })
    (given_in rows (codes "element"))) (given_cells rows)

-- how inspect prints what a filter leaves
abbrev pub inspect_look : Bool → Filter → View
inspect_look json f = if json then ReportJson f else Report f

-- what inspect is asked for, if its filter is right
abbrev pub inspect_work : List Row → Option (Work Text)
inspect_work rows = option_map (λ filter. Inspect (record {
  image = path_in rows (codes "IMAGE");
  look = inspect_look (is_given rows (codes "json")) filter;
})) (filter_in rows)

-- what stat prints
abbrev pub stat_look : Bool → View
stat_look json = if json then StatJson else Stat

-- what stat is asked for
abbrev pub stat_work : List Row → Work Text
stat_work rows =
    Inspect (record { image = path_in rows (codes "IMAGE"); look = stat_look (is_given rows (codes "json")) })

-- what migrate is asked for
abbrev pub migrate_work : List Row → Work Text
migrate_work rows = Migrate (record { old = path_in rows (codes "OLD"); new = path_in rows (codes "NEW") })

-- what copy is asked for, if each size that is given is in decimal digits below 2^32
abbrev pub copy_work : List Row → Option (Work Text)
copy_work rows = option_map (λ asked. Copy (record {
  from = path_in rows (codes "OLD");
  new = path_in rows (codes "NEW");
  asked = asked;
})) (sizes_given rows)

-- a dump, also of a damaged image, or one as objects of JSON
abbrev pub dump_as : Bool → Bool → Text → Option (Work Text)
dump_as false damaged image = Some (Dump (record { image = image; damaged = damaged }))
dump_as true true image = None
dump_as true false image = Some (Inspect (record { image = image; look = DumpJson }))

-- what dump is asked for, if no damaged image is to be dumped as JSON
abbrev pub dump_work : List Row → Option (Work Text)
dump_work rows =
    dump_as (is_given rows (codes "json")) (is_given rows (codes "damaged")) (path_in rows (codes "IMAGE"))

-- what load is asked for, if each size that is given is in decimal digits below 2^32
abbrev pub load_work : List Row → Option (Work Text)
load_work rows = option_map (λ asked. Load (record {
  from = path_in rows (codes "TEXT");
  new = path_in rows (codes "NEW");
  asked = asked;
})) (sizes_given rows)

-- what is asked for by the subcommand that was found, with its arguments
abbrev pub work_in : Option (Text × List Row) → Option (Work Text)
work_in None = Some Demonstration
work_in (Some met) =
    if bytes_eq met.0 (codes "format") then format_work met.1 else if bytes_eq met.0 (codes "serial")
    then serial_work met.1 else if bytes_eq met.0 (codes "run") then run_work met.1
    else if bytes_eq met.0 (codes "serve") then Some (serve_work met.1) else if bytes_eq met.0 (codes "migrate")
    then Some (migrate_work met.1) else if bytes_eq met.0 (codes "copy") then copy_work met.1
    else if bytes_eq met.0 (codes "dump") then dump_work met.1 else if bytes_eq met.0 (codes "load")
    then load_work met.1 else if bytes_eq met.0 (codes "stat") then Some (stat_work met.1) else inspect_work met.1

-- whether a flag is given to the subcommand that was found
abbrev pub has_flag : Text → Option (Text × List Row) → Bool
has_flag id None = false
has_flag id (Some met) = is_given met.1 id

-- the seconds that a text gives in decimal digits, up to a day
abbrev pub seconds_of : Text → Option ℕ
seconds_of text =
    option_and_then (λ seconds. if nat_le seconds 86400 then Some seconds else None) (number_up_to 4294967295 text)

-- how many seconds an opening waits: none, if it isn't said
abbrev pub seconds_in : List Row → Option ℕ
seconds_in rows = option_map_or seconds_of (first_of (codes "wait") rows) (Some 0)

-- how many seconds the openings of the subcommand that was found wait
abbrev pub wait_in : Option (Text × List Row) → Option ℕ
wait_in None = Some 0
wait_in (Some met) = seconds_in met.1

-- the same of the words, as clap walks them
abbrev pub asks_wait : List Text → Option ℕ
asks_wait words = wait_in (subcommand_of imem_app words)

-- whether the exit status of the subcommand that the words name tells refusals apart, as clap walks them
abbrev pub asks_statuses : List Text → Bool
asks_statuses words = has_flag (codes "statuses") (subcommand_of imem_app words)

-- whether it tells its progress to whoever reads standard error
abbrev pub asks_progress : List Text → Bool
asks_progress words = has_flag (codes "progress") (subcommand_of imem_app words)

-- what the words ask for, as clap walks them
abbrev pub asks_work : List Text → Option (Work Text)
asks_work words = work_in (subcommand_of imem_app words)
