use Rattle.std.proofs.Common.{◌≡◌, ◌≤◌, length, vec_capacity}
use Rattle.im_session.{proofs.EventLemmas.HasRun, specs.Kept.Kept}

abbrev pub invariant-loop-event : Rattle.im_session.proofs.session.Session.run.Given.invariant-loop-event
invariant-loop-event g l = record {
  kept : Kept g.D.Disk l.fn.self;
  size : length l.answers.items ≡ l.event-index;
  room : length l.events ≤ vec_capacity l.answers;
  run : HasRun g.D.Disk l.fn.self l.self l.events l.answers.items l.event-index;
}
