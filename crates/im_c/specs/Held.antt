-- What a handle owns: the same as a `Box`, or nothing.
use base.Fml.{Fml, ftrue}
use Rattle.std.specs.{Prelude.Some, Prelude.None, Box.Ownership.box_owns, declared.option.Option.Option, Global.Global}
use Rattle.std_heap.specs.contracts.GlobalAllocator.TheImpl.{ghosts}
use denote.RawPtr.{Ptr}
use Rattle.im_memory.specs.contracts.memory.Memory as Memory
use Rattle.im_listed.specs.contracts.image.Image as Image

-- the block with its memory, or nothing
abbrev pub holds_memory : Global → Ptr → Option Memory.the_row.Denot → Fml
holds_memory alloc p None = ftrue
holds_memory alloc p (Some x) = box_owns (ghosts.dealloc_token alloc) Memory.the_row p x

-- the block with its image, or nothing
abbrev pub holds_image : Global → Ptr → Option Image.the_row.Denot → Fml
holds_image alloc p None = ftrue
holds_image alloc p (Some x) = box_owns (ghosts.dealloc_token alloc) Image.the_row p x
