use Rattle.std.proofs.Common.{inl}
use Rattle.im_c.proofs.{Faults.found_fault, inspecting.fault_of.Goals.in-Err, inspecting.fault_of.Goals.in-Ok}

pub returns : Rattle.im_c.proofs.inspecting.fault_of.Goals.returns
returns c = elim c.match-inspect.branch [
  | in-Ok w ↦ inl w.result-is
  | in-Err w ↦ found_fault w.in-Err.refusal c.match-inspect.result c.args.disk.now.now.bytes w.in-Err.ensures.fault
      w.result-is
]
