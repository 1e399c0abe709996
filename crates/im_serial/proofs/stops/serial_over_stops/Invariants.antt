use Rattle.{im_types.specs.Types.Limits, im_disk.specs.Since.LeavesNow, im_session.specs.Carrying.LedBy}
use Rattle.im_serial.specs.{Asked.wanted_of, Begun.HasComeTo}

abbrev pub invariant-loop-at : Rattle.im_serial.proofs.stops.serial_over_stops.Given.invariant-loop-at
invariant-loop-at g l = (limits : Limits)
    → LeavesNow l.fn.image.disk.moment (LedBy (HasComeTo limits (wanted_of l.fn.script)))
    → LeavesNow l.disk.moment (LedBy (HasComeTo limits (wanted_of l.fn.script)))
