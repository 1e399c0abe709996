-- What is told of an image, and that it was told. (Own.)
use Rattle.std.proofs.Common.{◌≡◌, ℕ, ◌+◌, false, List, OnOk, OnErr, None, Ok, Err, Option, Result, subst, arith}
use Rattle.std.specs.Io.KnownBytes.{Appends, Keeps}
use Rattle.im_types.specs.Types.{Contents, Header, header_of, layout_in, Reads}
use Rattle.im_text.proofs.PrintingLemmas.{appends_kept}
use Rattle.im_report.specs.declared.look.View.{TheVariants.Report, View}
use Rattle.im_report.specs.{Inspecting.Tells, Look.looked_text, Look.ShowsView}

-- what is wanted was added with the header in force
pub looks : (look : View) (file : List ℕ) (h : Header) (run room : ℕ) (m : Contents) (was now : Option (List ℕ))
    → h ≡ header_of file
    → Reads (layout_in file) file (Ok (record { contents = m; count = h.count + run; room = room }))
    → Appends was now (looked_text look h run room m) → ShowsView look file was now
looks look file h run room m was now same reads added = record {
  memory = m;
  run = run;
  room = room;
  reads = subst (λ (h : Header). Reads (layout_in file) file
      (Ok (record { contents = m; count = h.count + run; room = room }))) same reads;
  added = subst (λ (h : Header). Appends was now (looked_text look h run room m)) same added;
}

-- a status of 0 is that of work that is done
pub done_at_zero : {T E : Type 0} (r : Result T E) (status : ℕ) (P : Type 0) → OnErr r (status ≡ 1) → status ≡ 0 → OnOk r P → P
done_at_zero (Ok x) status P refused zero done = done
done_at_zero (Err e) status P refused zero done = absurd (omega arith)

-- what is kept is there as it was written
pub looks_kept : (look : View) (file : List ℕ) (was mid now : Option (List ℕ)) → ShowsView look file was mid → Keeps mid now
    → ShowsView look file was now
looks_kept look file was mid now it keeps = record {
  memory = it.memory;
  run = it.run;
  room = it.room;
  reads = it.reads;
  added = appends_kept was mid now (looked_text look (header_of file) it.run it.room it.memory) it.added keeps;
}

-- a filter that asks for nothing leaves the whole report
pub tells_whole : (file : List ℕ) (was now : Option (List ℕ))
    → ShowsView (Report (record { cells = None; element = None; waiting = false })) file was now → Tells file was now
tells_whole file was now it =
    record { memory = it.memory; run = it.run; room = it.room; reads = it.reads; added = it.added }
