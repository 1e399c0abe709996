use Rattle.std.proofs.Common.{◌≡◌, ◌⊎◌, OnOk, Ok, Err, Result, sym, subst, inl, rules}
use Rattle.im_types.specs.Types.{sizes_of, Header, header_body, Records, ShowsRecords}
use Rattle.im_disk.proofs.SinceLemmas.{left_now, only_weaker}
use Rattle.im_disk.specs.{Moment.overlaid, Since.LeavesNow, Since.LeavesOnly}
use Rattle.im_image.{proofs.Encoding.counted, specs.Encoding.AreCounted, specs.Headers.seen}
use Rattle.im_migration.proofs.{Blank.blank_then, Opened.laid_now, Opened.leaves_laid}
use Rattle.im_migration.specs.Migration.{IsBlank, IsLaidDown}
use Rattle.im_migration.proofs.laying.lay_down.Goals as goal

on_ok : {T E P Q : Type 0} (r : Result T E) → OnOk r P → (P → Q) → OnOk r Q
on_ok (Ok x) p then = then p
on_ok (Err e) p then = tt

pub returns-in_err-clear-clause-runs : goal.returns-in_err-clear-clause-runs
returns-in_err-clear-clause-runs g c = record {
  honest = search rules;
  kept = λ h.
      only_weaker g.N.Disk.now g.N.Disk.past c.args.new.now c.clear.new.new IsBlank
      (λ file. IsBlank file ⊎ IsLaidDown (seen c.args.header.now) c.args.memory.now.contents file)
      (c.clear.ensures.runs.kept h (c.requires.blank (c.clear.ensures.runs.honest h))) (λ file blank. inl blank);
  failures = search rules;
}

pub returns-in_err-write_pages-clause-runs : goal.returns-in_err-write_pages-clause-runs
returns-in_err-write_pages-clause-runs g c = record {
  honest = search rules;
  kept = λ h1.
      let h = c.write_pages.ensures.runs.honest h1 in
      let h0 = c.clear.ensures.runs.honest h in
      only_weaker g.N.Disk.now g.N.Disk.past c.args.new.now c.write_pages.new.new IsBlank
      (λ file. IsBlank file ⊎ IsLaidDown (seen c.args.header.now) c.args.memory.now.contents file)
      (blank_then g.N.Disk c.args.new.now c.clear.new.new c.write_pages.new.new
      (c.clear.ensures.runs.kept h) (c.write_pages.ensures.runs.kept h1) (c.requires.blank h0))
      (λ file blank. inl blank);
  failures = search rules;
}

pub returns-in_err-close_slots-clause-runs : goal.returns-in_err-close_slots-clause-runs
returns-in_err-close_slots-clause-runs g c = record {
  honest = search rules;
  kept = λ h2.
      let h1 = c.close_slots.ensures.runs.honest h2 in
      let h = c.write_pages.ensures.runs.honest h1 in
      let h0 = c.clear.ensures.runs.honest h in
      let begun = blank_then g.N.Disk c.args.new.now c.clear.new.new c.write_pages.new.new
      (c.clear.ensures.runs.kept h) (c.write_pages.ensures.runs.kept h1) in
      only_weaker g.N.Disk.now g.N.Disk.past c.args.new.now c.close_slots.new.new IsBlank
      (λ file. IsBlank file ⊎ IsLaidDown (seen c.args.header.now) c.args.memory.now.contents file)
      (blank_then g.N.Disk c.args.new.now c.write_pages.new.new c.close_slots.new.new begun
      (c.close_slots.ensures.runs.kept h2) (c.requires.blank h0)) (λ file blank. inl blank);
  failures = search rules;
}

pub returns-in_err-write_header-clause-runs : goal.returns-in_err-write_header-clause-runs
returns-in_err-write_header-clause-runs g c = record {
  honest = search rules;
  kept = λ h3.
      let h2 = c.write_header.ensures.runs.honest h3 in
      let h1 = c.close_slots.ensures.runs.honest h2 in
      let h = c.write_pages.ensures.runs.honest h1 in
      let h0 = c.clear.ensures.runs.honest h in
      let begun = blank_then g.N.Disk c.args.new.now c.clear.new.new c.write_pages.new.new
      (c.clear.ensures.runs.kept h) (c.write_pages.ensures.runs.kept h1) in
      only_weaker g.N.Disk.now g.N.Disk.past c.args.new.now c.write_header.new.new IsBlank
      (λ file. IsBlank file ⊎ IsLaidDown (seen c.args.header.now) c.args.memory.now.contents file)
      (blank_then g.N.Disk c.args.new.now c.close_slots.new.new c.write_header.new.new
      (blank_then g.N.Disk c.args.new.now c.write_pages.new.new c.close_slots.new.new begun
      (c.close_slots.ensures.runs.kept h2)) (c.write_header.ensures.runs.kept h3) (c.requires.blank h0))
      (λ file blank. inl blank);
  failures = search rules;
}

pub returns-clause-runs : goal.returns-clause-runs
returns-clause-runs g c = record {
  honest = search rules;
  kept = λ h4.
      let h3 = c.open_gate.ensures.runs.honest h4 in
      let h2 = c.write_header.ensures.runs.honest h3 in
      let h1 = c.close_slots.ensures.runs.honest h2 in
      let h = c.write_pages.ensures.runs.honest h1 in
      let h0 = c.clear.ensures.runs.honest h in
      let begun = blank_then g.N.Disk c.args.new.now c.clear.new.new c.write_pages.new.new
      (c.clear.ensures.runs.kept h) (c.write_pages.ensures.runs.kept h1) in
      let limits = c.args.header.now.limits in
      let s = sizes_of limits in
      let m = c.args.memory.now.contents in
      let r = c.args.memory.now.records in
      let view = c.records-records.ensures.view in
      let count = subst (AreCounted s) view
      (counted s m c.records-records.result c.requires.sizes.cells c.requires.sizes.elements
      c.records-records.ensures.cells c.records-records.ensures.nodes c.records-records.ensures.windows) in
      let shows = subst (λ (x : Records). ShowsRecords s x m) view
      (c.records-records.ensures.shows s (sym c.requires.sizes.cells) (sym c.requires.sizes.elements)) in
      let laid = c.in_ok-close_slots.ensures.laid h2 r (c.in_ok-write_pages.ensures.laid h1) in
      let blank =
      blank_then g.N.Disk c.args.new.now c.write_pages.new.new c.close_slots.new.new begun
      (c.close_slots.ensures.runs.kept h2) in
      let apart = ((blank (c.requires.blank h0)).after (g.N.Disk.now c.close_slots.new.new).bytes
      (left_now (g.N.Disk.now c.close_slots.new.new))).1 in
      let first =
      blank_then g.N.Disk c.args.new.now c.close_slots.new.new c.write_header.new.new blank
      (c.write_header.ensures.runs.kept h3) (c.requires.blank h0) in
      let is = subst (λ (x : Header). (g.N.Disk.now c.write_header.new.new).bytes
      ≡ overlaid (g.N.Disk.now c.close_slots.new.new).bytes 1 (header_body x)) c.requires.header
      (c.in_ok-write_header.ensures.written h3) in
      subst (λ (x : Header). LeavesOnly g.N.Disk.now g.N.Disk.past c.args.new.now c.open_gate.new.disk
      (λ file. IsBlank file ⊎ IsLaidDown x m file)) (sym c.requires.header)
      (leaves_laid s limits.in_range c.args.header.now.count c.requires.last r m count shows
      (g.N.Disk.now c.close_slots.new.new).bytes laid apart
      g.N.Disk.now g.N.Disk.past c.args.new.now c.write_header.new.new c.open_gate.new.disk is first
      (c.open_gate.ensures.runs.leaves h4));
  failures = search rules;
}

pub returns-clause-laid : goal.returns-clause-laid
returns-clause-laid g c = on_ok c.open_gate.result c.open_gate.ensures.opened (λ done h4.
    let h3 = c.open_gate.ensures.runs.honest h4 in
    let h2 = c.write_header.ensures.runs.honest h3 in
    let h1 = c.close_slots.ensures.runs.honest h2 in
    let h = c.write_pages.ensures.runs.honest h1 in
    let h0 = c.clear.ensures.runs.honest h in
    let begun = blank_then g.N.Disk c.args.new.now c.clear.new.new c.write_pages.new.new
    (c.clear.ensures.runs.kept h) (c.write_pages.ensures.runs.kept h1) in
    let limits = c.args.header.now.limits in
    let s = sizes_of limits in
    let m = c.args.memory.now.contents in
    let r = c.args.memory.now.records in
    let view = c.records-records.ensures.view in
    let count = subst (AreCounted s) view
    (counted s m c.records-records.result c.requires.sizes.cells c.requires.sizes.elements
    c.records-records.ensures.cells c.records-records.ensures.nodes c.records-records.ensures.windows) in
    let shows = subst (λ (x : Records). ShowsRecords s x m) view
    (c.records-records.ensures.shows s (sym c.requires.sizes.cells) (sym c.requires.sizes.elements)) in
    let laid = c.in_ok-close_slots.ensures.laid h2 r (c.in_ok-write_pages.ensures.laid h1) in
    let blank =
    blank_then g.N.Disk c.args.new.now c.write_pages.new.new c.close_slots.new.new begun
    (c.close_slots.ensures.runs.kept h2) in
    let apart = ((blank (c.requires.blank h0)).after (g.N.Disk.now c.close_slots.new.new).bytes
    (left_now (g.N.Disk.now c.close_slots.new.new))).1 in
    let first =
    blank_then g.N.Disk c.args.new.now c.close_slots.new.new c.write_header.new.new blank
    (c.write_header.ensures.runs.kept h3) (c.requires.blank h0) in
    let is = subst (λ (x : Header). (g.N.Disk.now c.write_header.new.new).bytes
    ≡ overlaid (g.N.Disk.now c.close_slots.new.new).bytes 1 (header_body x)) c.requires.header
    (c.in_ok-write_header.ensures.written h3) in
    subst (λ (x : Header). LeavesNow (g.N.Disk.now c.open_gate.new.disk) (IsLaidDown x m)) (sym c.requires.header)
    (laid_now s limits.in_range c.args.header.now.count c.requires.last r m count shows
    (g.N.Disk.now c.close_slots.new.new).bytes laid apart
    g.N.Disk.now g.N.Disk.past c.args.new.now c.write_header.new.new c.open_gate.new.disk is first
    (c.open_gate.ensures.runs.leaves h4) (done h4)))
