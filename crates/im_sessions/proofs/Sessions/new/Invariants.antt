use Rattle.std.proofs.Common.{◌≡◌, replicate}
use Rattle.im_types.specs.Types.{new_window}

-- so many windows so far
abbrev pub invariant-loop : Rattle.im_sessions.proofs.Sessions.new.Given.invariant-loop
invariant-loop l = l.windows.items ≡ replicate l.counter new_window
