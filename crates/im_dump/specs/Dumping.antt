-- What dumping an image writes, and what a dump is read as. (Own.)
use Rattle.std.specs.{Prelude.◌≡◌, Prelude.ℕ, Prelude.List, Prelude.Ok, Prelude.Option, Io.KnownBytes.Appends}
use Rattle.im_types.specs.Types.{Contents, Sizes, sizes_of, header_of, layout_in, Reached, Reads}
use Rattle.im_dump.specs.{declared.loading.Loaded.Loaded, Dump.dump_text, Fitting.FitsDump}

-- the bytes of a file mean a memory, whose numbers have each its own spelling, and its dump was written
pub record Dumps (file : List ℕ) (was now : Option (List ℕ)) : Type 0 where
  pub reached : Reached
  pub reads : Reads (layout_in file) file (Ok reached)
  pub added : Appends was now (dump_text (header_of file).sizes reached.count reached.contents)
  pub fits : FitsDump (header_of file).sizes reached.count reached.contents

-- the same, if the disk is honest
pub record WasDumped (Honest : Type 0) (file : List ℕ) (was now : Option (List ℕ)) : Type 0 where
  pub dumps : Honest → Dumps file was now

-- the text is the dump of what was loaded, which is a memory of its sizes
pub record IsDumpOf (l : Loaded) (bytes : List ℕ) : Type 0 where
  pub text : bytes ≡ dump_text (sizes_of l.limits) l.count l.memory.contents
  pub fits : FitsDump (sizes_of l.limits) l.count l.memory.contents

-- what was loaded has these sizes, this count and this memory
pub record IsSame (s : Sizes) (count : ℕ) (m : Contents) (l : Loaded) : Type 0 where
  pub sizes : sizes_of l.limits ≡ s
  pub counted : l.count ≡ count
  pub contents : l.memory.contents ≡ m

-- what was loaded is what the bytes of a file mean: sizes, count and memory
pub record MeansLoaded (file : List ℕ) (l : Loaded) : Type 0 where
  pub sizes : sizes_of l.limits ≡ (header_of file).sizes
  pub reached : Reached
  pub reads : Reads (layout_in file) file (Ok reached)
  pub counted : l.count ≡ reached.count
  pub contents : l.memory.contents ≡ reached.contents
