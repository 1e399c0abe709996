use Rattle.std.proofs.Common.{◌≡◌, length, count_by}
use Rattle.im_queue.specs.Servers.{is_unmade}

abbrev pub invariant-loop : Rattle.im_queue.proofs.servers.Servers.new.Given.invariant-loop
invariant-loop l = (length l.all.items ≡ l.counter) × (count_by is_unmade l.all.items ≡ l.counter)
