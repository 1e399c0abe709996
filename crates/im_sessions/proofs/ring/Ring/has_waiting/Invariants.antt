use Rattle.std.{proofs.Common.◌≡◌, proofs.Common.false, proofs.Common.take, specs.List.list_any}
use Rattle.im_types.specs.Types.{is_waiting}

-- none so far
abbrev pub invariant-loop-past : Rattle.im_sessions.proofs.ring.Ring.has_waiting.Given.invariant-loop-past
invariant-loop-past l = list_any is_waiting (take l.past l.self.kept) ≡ false
