-- What is dumped, and what a new file is given of a text.
use Rattle.std.proofs.Common.{◌≡◌, ℕ, ◌⊎◌, List, codes, Option, ap, ◌∙◌, subst, inl, inr, ⊎_elim, arith}
use Rattle.std.specs.Io.KnownBytes.{Appends, Keeps}
use Rattle.im_types.specs.Types.{Sizes, sizes_of, Header, header_of}
use Rattle.im_disk.specs.{Account.IsHonest, File.account_of, Moment.Left, Since.Leaves, Since.LeavesNow}
use Rattle.im_disk.specs.declared.{FileDisk.FileDisk, Start.Ghosts}
use Rattle.{im_image.specs.Headers.seen, im_text.proofs.PrintingLemmas.appends_kept}
use Rattle.im_migration.specs.{Copying.IsWhole, Resizing.IsResized, Resizing.sizes_asked}
use Rattle.im_migration.specs.declared.{Asked.Asked, Resized.Resized}
use Rattle.im_migration.specs.Migration.{BlankOrLaid, IsBlank, IsLaidDown, moved_header}
use Rattle.im_dump.specs.{declared.Loaded.Loaded, Dump.dump_text, Dumping.Dumps, Dumping.IsDumpOf}
use Rattle.im_program.proofs.MovedLemmas.{was_left}
use Rattle.im_program.specs.Loading.{IsPutInto, IsReadied, LoadedFrom, MeansLoad}
use Rattle.im_program.specs.{Moving.BeginsNew, Moving.counted_line, Sources.IsTextOf}

-- a dump that was written is there as it was written
pub dumps_kept : (file : List ℕ) (was mid is : Option (List ℕ)) → Dumps file was mid → Keeps mid is → Dumps file was is
dumps_kept file was mid is it keeps = record {
  reached = it.reached;
  reads = it.reads;
  added = appends_kept was mid is (dump_text (header_of file).sizes it.reached.count it.reached.contents) it.added keeps;
  fits = it.fits;
}

-- what was put into a new file
pub is_put : {S : Type 0} (start : Ghosts S) (len : ℕ) (opened new : FileDisk S start) → BeginsNew start len opened
    → (r : Resized) → (IsHonest (account_of start new) → IsHonest (account_of start opened)
    × Leaves (account_of start opened).now (account_of start new).now (account_of start opened).past
    (account_of start new).past (BlankOrLaid (seen r.header) r.memory.contents))
    → (IsHonest (account_of start new)
    → LeavesNow (account_of start new).now (IsLaidDown (seen r.header) r.memory.contents)) → IsPutInto start r new
is_put start len opened new begins r leaves laid = record {
  leaves = λ h c left. ⊎_elim (λ earlier. first c (was_left start len opened begins c earlier)) (λ here. inr here)
      ((leaves h).1.each 0 c (omega arith) left);
  laid = laid;
}
  where
    first : (c : List ℕ) → Left start.first c ⊎ IsBlank c
        → Left start.first c ⊎ IsBlank c ⊎ IsLaidDown (seen r.header) r.memory.contents c
    first c (inl left) = inl left
    first c (inr blank) = inr (inl blank)

module _ (asked : Asked) (l : Loaded) (r : Resized) (whole : IsWhole r) (ready : IsReadied asked l r) where
  -- what was laid down means what was loaded
  pub means_load : (file : List ℕ) → IsLaidDown (seen r.header) r.memory.contents file → MeansLoad asked l file
  means_load file laid =
      let s : Sizes = sizes_asked asked (sizes_of l.limits) in
      let is : seen r.header ≡ moved_header s l.count = whole.header
      ∙ ap (λ (t : Sizes). moved_header t r.header.count) ready.sizes ∙ ap (moved_header s) ready.count in
      record {
        contents = r.memory.contents;
        resized = subst (λ (t : Sizes). IsResized t l.memory.contents r.memory.contents) ready.sizes ready.memory;
        is = subst (λ (h : Header). IsLaidDown h r.memory.contents file) is laid;
      }

  left_or_load : {P : Type 0} (c : List ℕ) → P ⊎ IsBlank c ⊎ IsLaidDown (seen r.header) r.memory.contents c
      → P ⊎ IsBlank c ⊎ MeansLoad asked l c
  left_or_load c (inl left) = inl left
  left_or_load c (inr (inl blank)) = inr (inl blank)
  left_or_load c (inr (inr laid)) = inr (inr (means_load c laid))

  pub loaded_from : {S : Type 0} (start : Ghosts S) (to : FileDisk S start) → IsPutInto start r to
      → (known : Option (List ℕ)) → (text : List ℕ) × IsTextOf known text × IsDumpOf l text
      → (was is : Option (List ℕ)) (status : ℕ)
      → (status ≡ 0 → Appends was is (counted_line (codes "loaded") l.count)) → IsHonest (account_of start to)
      → LoadedFrom (λ (f : FileDisk S start). (account_of start f).now) (λ (f : FileDisk S start). (account_of start f).past)
      start.first asked known to was is status
  loaded_from start to put known dump was is status told h = record {
    text = dump.0;
    read = dump.1;
    loaded = l;
    dump = dump.2;
    leaves = λ c left. left_or_load c (put.leaves h c left);
    done = λ c left. means_load c (put.laid h c left);
    told = told;
  }
