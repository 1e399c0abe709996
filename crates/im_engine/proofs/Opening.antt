-- What is read of an image.
use Rattle.std.proofs.Common.{◌≡◌, ℕ, ◌+◌, true, List, length, replicate, Ok, sym, ap, ◌∙◌, subst}
use Rattle.im_types.specs.Types.{Contents, Layout, layout_named, layout_in_use, area_pages, ring_of, Header, header_of}
use Rattle.im_types.specs.Types.{Reached, Reads}
use Rattle.im_disk.proofs.SinceLemmas.{leaves_now_synced, leaves_start, leaves_step, leaves_then, left_sync}
use Rattle.im_disk.specs.Moment.{Left, MayTick, Moment, Shaken, synced}
use Rattle.im_disk.specs.Since.{Leaves, LeavesNow, ReadsOnly}
use Rattle.{im_journal.specs.Holding.Holds, im_journal.specs.Holding.JournalState, im_meaning.specs.Images.IsImage}
use Rattle.{im_meaning.specs.Images.IsRead, im_image.specs.Reading.JournalOf, im_checkpoint.proofs.Moments.kept_calm}
use Rattle.im_meaning.proofs.{Headers.in_force_is, Meanings.read_image}
use Rattle.im_checkpoint.specs.{Keeping.IsKept, Keeping.Keeps, Keeping.Paged, Step.NoCheckpoint}
use Rattle.im_engine.proofs.Making.{rests}

-- after a sync, and calls that only read, what the bytes have is what every file left has
pub settled : (old mid new : Moment) (P : List ℕ → Type 0) → mid ≡ synced old → new ≡ mid → P mid.bytes
    → LeavesNow new P
settled old mid new P done reads has = leaves_now_synced old new P (reads ∙ done)
    (subst P (ap (λ (m : Moment). m.bytes) done) has)

-- a sync, and then calls that only read, add no file
pub opens_leaves : (m0 m1 m2 : Moment) (p0 p1 p2 : List Moment) → MayTick Shaken m0 m1 p0 p1 → ReadsOnly m1 m2 p1 p2
    → Leaves m0 m2 p0 p2 (Left m0)
opens_leaves m0 m1 m2 p0 p1 p2 tick reads =
    leaves_then m0 m1 m2 p0 p1 p2 (Left m0) (Left m1) (Left m0)
    (leaves_step m0 m0 m1 p0 p0 p1 (Left m0) Shaken (leaves_start m0 p0 (Left m0)) tick
    (λ c left. left_sync m0 m1 p0 p1 tick c left))
    reads.leaves
    (λ c left. left)
    (λ c left. left_sync m0 m1 p0 p1 tick c left)

-- the journal of an image of the layout in use lies where that layout says
pub ring_young : (h : Header) (j : JournalState) → layout_named h.version ≡ layout_in_use → JournalOf h j → j.ring
    ≡ ring_of layout_in_use h.sizes
ring_young h j young journal = journal.ring ∙ ap (λ (l : Layout). ring_of l h.sizes) young

-- with no checkpoint under way, what is read of a file is kept in it
pub keeps_read : (h : Header) (m : Contents) (j : JournalState) (file : List ℕ) → h ≡ header_of file
    → layout_named h.version ≡ layout_in_use → JournalOf h j → Holds j file
    → Reads layout_in_use file (Ok (record { contents = m; count = j.count; room = j.room })) → Keeps h m j file
keeps_read h m j file is young journal holds reads =
    let r : Reached = record { contents = m; count = j.count; room = j.room } in
    let read : IsRead layout_in_use file r = read_image layout_in_use file r reads in
    let same : read.header ≡ h = sym (in_force_is layout_in_use read.header file read.image.in_force) ∙ sym is in
    record {
      shown = read.shown;
      commands = read.commands;
      there = j.room;
      image = subst (λ (x : Header). IsImage layout_in_use x read.shown read.commands j.room file) same read.image;
      accepts = read.accepts;
      count = subst (λ (x : Header). j.count ≡ x.count + length read.commands) same read.count;
      ring = ring_young h j young journal;
      first = journal.first;
      journal = holds;
    }

-- and after a sync, and calls that only read, the disk keeps it
pub kept_read : (old mid new : Moment) (h : Header) (x : Paged) (m : Contents) (j : JournalState) → x.recent
    ≡ replicate (area_pages layout_in_use h.sizes) true → mid ≡ synced old → new ≡ mid → h ≡ header_of mid.bytes
    → layout_named h.version ≡ layout_in_use → JournalOf h j → Holds j mid.bytes
    → Reads layout_in_use mid.bytes (Ok (record { contents = m; count = j.count; room = j.room }))
    → IsKept (record { header = h; step = NoCheckpoint }) x m j new
kept_read old mid new h x m j all done same is young journal holds reads =
    subst (λ (y : Moment). IsKept (record { header = h; step = NoCheckpoint }) x m j y) (sym same)
    (kept_calm (record { header = h; step = NoCheckpoint }) x m j mid (ap (λ (y : Moment). y.ranges) done)
    (keeps_read h m j mid.bytes is young journal holds reads) (rests h x mid.bytes all))
