use Rattle.std.proofs.Common.{◌≡◌, ◌+◌, List, [], length, sym, refl, ap, ◌∙◌, arith, rules}
use Rattle.im_types.specs.Types.{Command}
use Rattle.im_journal.proofs.Fitting.{full_by, full_here, full_no_device, full_no_ok, known_laid, not_full_by, room_by}
use Rattle.im_journal.proofs.Laying.{first_of, inside, lay_leaves, lays}
use Rattle.im_journal.specs.Holding.{IsFullFor, journal_state, JournalState, with_ahead}
use Rattle.im_journal.proofs.journal.Journal.lay_ahead.Goals as goal

pub returns-in-Err-clause-runs : goal.returns-in-Err-clause-runs
returns-in-Err-clause-runs g c = record {
  honest = search rules;
  leaves = λ h.
      let h0 = c.lay_bodies.ensures.runs.honest h in
      lay_leaves g.D.Disk c.args.disk.now c.lay_bodies.new.disk
      (first_of (journal_state c.self.inside.base c.self.inside.slots c.self.inside.first c.self.inside.count
      c.self.inside.room c.self.inside.laid) c.args.self.now c.as_slice-slice.result.now c.args.next.now.items
      (g.D.Disk.now c.args.disk.now) (length c.as_slice-slice.result.now) c.has_room.result c.self.view_is
      c.as_slice-slice.ensures.value c.self.invariant c.requires.none (c.requires.holds h0) refl c.has_room.ensures
      c.if-not-has_room.false)
      (c.lay_bodies.ensures.runs.leaves h);
  calls = search rules;
  faults = search rules;
}

pub returns-clause-runs : goal.returns-clause-runs
returns-clause-runs g c = record {
  honest = search rules;
  leaves = λ h.
      let h0 = c.lay_bodies.ensures.runs.honest h in
      lay_leaves g.D.Disk c.args.disk.now c.lay_bodies.new.disk
      (first_of (journal_state c.self.inside.base c.self.inside.slots c.self.inside.first c.self.inside.count
      c.self.inside.room c.self.inside.laid) c.args.self.now c.as_slice-slice.result.now c.args.next.now.items
      (g.D.Disk.now c.args.disk.now) (length c.as_slice-slice.result.now) c.has_room.result c.self.view_is
      c.as_slice-slice.ensures.value c.self.invariant c.requires.none (c.requires.holds h0) refl c.has_room.ensures
      c.if-not-has_room.false)
      (c.lay_bodies.ensures.runs.leaves h);
  calls = search rules;
  faults = search rules;
}

pub returns-clause-laid : goal.returns-clause-laid
returns-clause-laid g c = λ h.
    let h0 = c.lay_bodies.ensures.runs.honest h in
    let with_these = λ (l : List Command). journal_state c.self.inside.base c.self.inside.slots c.self.inside.first
    c.self.inside.count c.self.inside.room l in
    lays
    (first_of (journal_state c.self.inside.base c.self.inside.slots c.self.inside.first c.self.inside.count
    c.self.inside.room c.self.inside.laid) c.args.self.now c.as_slice-slice.result.now c.args.next.now.items
    (g.D.Disk.now c.args.disk.now) (length c.as_slice-slice.result.now) c.has_room.result c.self.view_is
    c.as_slice-slice.ensures.value c.self.invariant c.requires.none (c.requires.holds h0) refl c.has_room.ensures
    c.if-not-has_room.false)
    (g.D.Disk.now c.lay_bodies.new.disk) (c.in_default.ensures.laid h) _
    (ap with_these (c.of.ensures ∙ sym c.as_slice-slice.ensures.value))

pub returns-clause-state : goal.returns-clause-state
returns-clause-state g c =
    let with_these = λ (l : List Command). journal_state c.self.inside.base c.self.inside.slots c.self.inside.first
    c.self.inside.count c.self.inside.room l in
    ap with_these c.of.ensures ∙ ap (λ (j : JournalState). with_ahead c.args.next.now.items j) c.self.view_is

pub invariant_of-self : goal.invariant_of-self
invariant_of-self g c =
    let slice = c.as_slice-slice.result.now in
    let fits = room_by c.self.inside.count c.self.inside.room (length slice) c.has_room.result c.has_room.ensures
    c.if-not-has_room.false in
    let same : c.of.result ≡ slice = c.of.ensures ∙ sym c.as_slice-slice.ensures.value in
    known_laid (journal_state c.self.inside.base c.self.inside.slots c.self.inside.first c.self.inside.count
    c.self.inside.room c.self.inside.laid) c.self.invariant c.of.result
    (omega (arith, ap length same, c.as_slice-slice.ensures.fits))
    (omega (arith, ap length same, fits.0)) (omega (arith, ap length same, fits.1))

pub lay_bodies-requires-clause-fits : goal.lay_bodies-requires-clause-fits
lay_bodies-requires-clause-fits g c =
    let known = c.self.invariant in
    let fits = room_by c.self.inside.count c.self.inside.room (length c.as_slice-slice.result.now) c.has_room.result
    c.has_room.ensures c.if-not-has_room.false in
    record {
      ring = (omega (arith, known.enough_slots), known.inside);
      few = c.as_slice-slice.ensures.fits;
      once_round = omega (arith, fits.0, known.once_round, known.begun);
      last = fits.1;
    }

pub lay_bodies-requires-clause-inside : goal.lay_bodies-requires-clause-inside
lay_bodies-requires-clause-inside g c = λ h0.
    inside
    (first_of (journal_state c.self.inside.base c.self.inside.slots c.self.inside.first c.self.inside.count
    c.self.inside.room c.self.inside.laid) c.args.self.now c.as_slice-slice.result.now c.args.next.now.items
    (g.D.Disk.now c.args.disk.now) (length c.as_slice-slice.result.now) c.has_room.result c.self.view_is
    c.as_slice-slice.ensures.value c.self.invariant c.requires.none (c.requires.holds h0) refl c.has_room.ensures
    c.if-not-has_room.false)

pub returns-then-not-has_room-clause-full : goal.returns-then-not-has_room-clause-full
returns-then-not-has_room-clause-full g c =
    let none : c.self.inside.laid ≡ [] = ap (λ (j : JournalState). j.ahead) c.self.view_is ∙ c.requires.none in
    let all : length c.as_slice-slice.result.now ≡ length c.self.inside.laid + length c.args.next.now.items
    = omega (arith, ap length none, ap length c.as_slice-slice.ensures.value) in
    full_here (IsFullFor c.args.self.now c.args.next.now.items) c.args.disk.now
    (full_by (journal_state c.self.inside.base c.self.inside.slots c.self.inside.first c.self.inside.count
    c.self.inside.room c.self.inside.laid) c.args.self.now c.args.next.now.items
    (length c.as_slice-slice.result.now) c.has_room.result c.self.view_is all c.has_room.ensures c.if-not-has_room.true)

pub returns-in-Err-clause-full : goal.returns-in-Err-clause-full
returns-in-Err-clause-full g c =
    let none : c.self.inside.laid ≡ [] = ap (λ (j : JournalState). j.ahead) c.self.view_is ∙ c.requires.none in
    let all : length c.as_slice-slice.result.now ≡ length c.self.inside.laid + length c.args.next.now.items
    = omega (arith, ap length none, ap length c.as_slice-slice.ensures.value) in
    full_no_device (IsFullFor c.args.self.now c.args.next.now.items) c.args.disk.now c.lay_bodies.new.disk
    (not_full_by (journal_state c.self.inside.base c.self.inside.slots c.self.inside.first c.self.inside.count
    c.self.inside.room c.self.inside.laid) c.args.self.now c.args.next.now.items
    (length c.as_slice-slice.result.now) c.has_room.result c.self.view_is all c.has_room.ensures
    c.if-not-has_room.false)

pub returns-clause-full : goal.returns-clause-full
returns-clause-full g c =
    let none : c.self.inside.laid ≡ [] = ap (λ (j : JournalState). j.ahead) c.self.view_is ∙ c.requires.none in
    let all : length c.as_slice-slice.result.now ≡ length c.self.inside.laid + length c.args.next.now.items
    = omega (arith, ap length none, ap length c.as_slice-slice.ensures.value) in
    full_no_ok (IsFullFor c.args.self.now c.args.next.now.items) c.args.disk.now c.lay_bodies.new.disk tt
    (not_full_by (journal_state c.self.inside.base c.self.inside.slots c.self.inside.first c.self.inside.count
    c.self.inside.room c.self.inside.laid) c.args.self.now c.args.next.now.items
    (length c.as_slice-slice.result.now) c.has_room.result c.self.view_is all c.has_room.ensures
    c.if-not-has_room.false)
