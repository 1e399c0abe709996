-- What is dumped of an image, and that it was written. (Own.)
use Rattle.std.proofs.Common.{◌≡◌, ℕ, ◌^◌, ◌<◌, List, [], length, IfOk, OnOk, Some, Ok, Err, Option, Result, sym, ◌∙◌}
use Rattle.std.proofs.Common.{subst}
use Rattle.std.specs.Io.KnownBytes.{Appends}
use Rattle.im_types.specs.Types.{Contents, IsMemory, Sizes, sizes_of, Header, header_of, layout_in, Reached, Reads}
use Rattle.im_image.specs.{declared.ImageParts.ImageParts, Reading.AreParts}
use Rattle.im_dump.specs.declared.{faults.DumpFault.DumpFault, loading.Loaded.Loaded}
use Rattle.im_dump.specs.{Dump.dump_text, Fitting.FitsContents, Fitting.FitsDump}
use Rattle.im_dump.specs.Dumping.{Dumps, IsDumpOf, IsSame, MeansLoaded, WasDumped}

-- the dump was written with the sizes of the header in force
pub dumps : (file : List ℕ) (h : Header) (it : Reached) (was now : Option (List ℕ)) → h ≡ header_of file
    → Reads (layout_in file) file (Ok it) → Appends was now (dump_text h.sizes it.count it.contents)
    → FitsDump h.sizes it.count it.contents → Dumps file was now
dumps file h it was now same reads added fits = record {
  fits = subst (λ (h : Header). FitsDump h.sizes it.count it.contents) same fits;
  reached = it;
  reads = reads;
  added = subst (λ (h : Header). Appends was now (dump_text h.sizes it.count it.contents)) same added;
}

-- a memory that was dumped is the one that is loaded
pub reloaded : (r : Result Loaded DumpFault) (text : List ℕ) (s : Sizes) (count : ℕ) (m : Contents)
    → ((t : Sizes) (d : ℕ) (n : Contents) → FitsDump t d n → dump_text t d n ≡ dump_text s count m → (t ≡ s) × (d
    ≡ count) × (n ≡ m))
    → text ≡ dump_text s count m → IfOk r (λ l. IsDumpOf l text) → IfOk r (IsSame s count m)
reloaded (Ok l) text s count m one is it =
    let same = one (sizes_of l.limits) l.count l.memory.contents it.fits (sym it.text ∙ is) in
    record { sizes = same.0; counted = same.1; contents = same.2 }
reloaded (Err e) text s count m one is it = tt

-- the same of a result
pub dumped : {E T : Type 0} (r : Result T E) (file : List ℕ) (h : Header) (it : Reached) (Honest : Type 0) (was now :
    Option (List ℕ))
    → (Honest → h ≡ header_of file) → (Honest → Reads (layout_in file) file (Ok it))
    → OnOk r (Appends was now (dump_text h.sizes it.count it.contents)) → OnOk r (FitsDump h.sizes it.count it.contents)
    → OnOk r (WasDumped Honest file was now)
dumped (Ok x) file h it Honest was now same reads added fits = record {
  dumps = λ honest. dumps file h it was now (same
      honest) (reads honest) added fits;
}
dumped (Err e) file h it Honest was now same reads added fits = tt

-- what was dumped is what is loaded
pub loaded : (file text : List ℕ) (l : Loaded)
    → ((t : Sizes) (d : ℕ) (n : Contents) (s : Sizes) (c : ℕ) (m : Contents) → FitsDump t d n → FitsDump s c m
    → dump_text t d n ≡ dump_text s c m → (t ≡ s) × (d ≡ c) × (n ≡ m))
    → Dumps file (Some []) (Some text) → IsDumpOf l text → MeansLoaded file l
loaded file text l one it is =
    let written : text ≡ dump_text (header_of file).sizes it.reached.count it.reached.contents = it.added in
    let same = one (sizes_of l.limits) l.count l.memory.contents (header_of file).sizes it.reached.count
    it.reached.contents is.fits it.fits (sym is.text ∙ written) in
    record { sizes = same.0; reached = it.reached; reads = it.reads; counted = same.1; contents = same.2 }

-- a memory that was dumped has numbers that fit, in an image whose parts fit each other
pub fits_parts : (i : ImageParts) (count : ℕ) → AreParts i → count < 2 ^ 64
    → IsMemory (length i.memory.contents.cells) (length i.memory.contents.windows) i.memory.contents
    → FitsContents i.memory.contents → FitsDump (sizes_of i.header.limits) count i.memory.contents
fits_parts i count parts low memory fits = record {
  limits = i.header.limits.in_range;
  counted = low;
  memory = record {
    cell_count = parts.sizes.cells;
    window_count = parts.sizes.elements;
    blocks = memory.blocks;
    windows = memory.windows;
    agrees = memory.agrees;
  };
  fits = fits;
}

-- what holds, holds at `Ok`
pub whatever_ok : {E T P : Type 0} (r : Result T E) → P → OnOk r P
whatever_ok (Ok x) p = p
whatever_ok (Err e) p = tt
