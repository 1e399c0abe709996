use Rattle.std.proofs.Common.{◌≡◌}

abbrev pub invariant-loop : Rattle.im_pipes.proofs.ends.Outlet.gather.Given.invariant-loop
invariant-loop g l = l.self ≡ l.fn.self
