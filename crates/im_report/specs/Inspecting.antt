-- What inspecting an image reports. (Own.)
use Rattle.std.specs.{Prelude.ℕ, Prelude.◌+◌, Prelude.List, Prelude.Ok, Prelude.Option, Io.KnownBytes.Appends}
use Rattle.im_types.specs.Types.{Contents, header_of, layout_in, Reads}
use Rattle.im_report.specs.Report.{report_text}

-- The bytes of a file mean a memory, and its report, with the header in force, was written.
pub record Tells (file : List ℕ) (was now : Option (List ℕ)) : Type 0 where
  pub memory : Contents
  pub run : ℕ
  pub room : ℕ
  pub reads : Reads (layout_in file) file
      (Ok (record { contents = memory; count = (header_of file).count + run; room = room }))
  pub added : Appends was now (report_text (header_of file) run room memory)
