-- The report of an image and its dump, with an object of JSON on each line. (Own.)
use Rattle.std.specs.Prelude.{ℕ, List, ◌++◌, codes}
use Rattle.im_types.specs.Types.{Contents, Header}
use Rattle.im_report.specs.{declared.notation.Notation.TheVariants.Json, Stat.count_json, Stat.head_json}
use Rattle.im_report.specs.Report.{contents_text, three_words}

-- the header and the journal, as a statistic begins
abbrev pub report_head : Header → ℕ → ℕ → List ℕ
report_head h run room = head_json h run room ++ codes "}\n"

-- the version of such a dump and the sizes
abbrev pub dump_sizes : Header → List ℕ
dump_sizes h =
    three_words (codes "{\"dump\":1,\"limits\":{\"cells\":") h.sizes.cells (codes ",\"elements\":") h.sizes.elements
    (codes ",\"slots\":") h.sizes.slots (codes "}")

-- what an image means: its sizes and the commands so far, and the memory
abbrev pub dump_json : Header → ℕ → Contents → List ℕ
dump_json h run m = dump_sizes h ++ count_json h run ++ codes "}\n" ++ contents_text Json m
