use Rattle.std.proofs.Common.{◌≡◌, take}

-- so many entries so far
abbrev pub invariant-loop-one : Rattle.im_sessions.proofs.ring.Ring.restore.Given.invariant-loop-one
invariant-loop-one l = l.ring ≡ record { base = l.base; kept = take l.one-index l.kept }
