use mir.Raw.{raw}
use base.Shift.{Keyless}
use denote.Param.Send.{IsSend, AllSend, owning_send, struct_send, sendable}
use denote.{Memory.lone, RawPtr.Ptr, Struct.Struct.exits_of, Struct.Owning.shape, Struct.Owning.fields}
use denote.Struct.Owning.{to}
use Rattle.std.{proofs.Common.Some, proofs.Common.None, proofs.Common.Global, specs.declared.option.Option.Option}
use Rattle.std_alloc.proofs.SendSync.{lies, quiet}
use Rattle.im_c.proofs.Crosses.{Memory-row-send}
use Rattle.im_c.specs.{contracts.memory.LtMemory.the_row, contracts.memory.LtMemory.the_type, Held.holds_memory}
use Rattle.std.proofs.Crossing as heap
use Rattle.std_heap.proofs.Global.TheSendSync as handle
use Rattle.im_memory.specs.contracts.memory.Memory as Memory

held : (a : Global) (p : Ptr) (x : Option Memory.the_row.Denot) → Keyless (holds_memory a p x)
held a p None = tt
held a p (Some x) = (lies Memory.the_row Memory-row-send p x, heap.frees.frees a (raw (lone Memory.the_row.mir)) p)

pub send : IsSend the_row
send =
    let all : AllSend (fields the_type) = (search sendable, (handle.the_field_send, tt)) in
    owning_send the_type all (λ d. held d.alloc d.ptr d.value)
    (λ k. quiet (to the_type) (exits_of k (fields the_type)) ((struct_send (shape the_type) all).leaving k))
