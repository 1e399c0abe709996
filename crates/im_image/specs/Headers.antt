-- A header of the code, as the definitions see it. (Own.)
use Rattle.std.specs.Prelude.{◌≡◌, ℕ, ◌+◌, ◌⊎◌, List, length, if◌then◌else◌, nat_lt, ◌==◌, Some, None, Option}
use Rattle.im_types.specs.Types.{Refusal, Device, NoMemory, WrongLength, NoHeader, BadHeader, BadPage, BadRecord}
use Rattle.im_types.specs.Types.{OldVersion, Layout, layout_1, layout_named, layout_in_use, sizes_of, page_bytes}
use Rattle.im_types.specs.Types.{image_length, Header as Seen, header_in, header_place, place_in_force, place_fault}
use Rattle.im_types.specs.Types.{or_else}
use Rattle.im_image.specs.declared.header.Header.{Header}
use Rattle.im_image.specs.declared.versions.Versions.{TheVariants.Any, TheVariants.First, TheVariants.InUse, Versions}

-- a header, as the definitions see it
abbrev pub seen : Header → Seen
seen h = record {
  version = h.version;
  area = h.area;
  generation = h.generation;
  count = h.count;
  sizes = sizes_of h.limits;
}

-- the faults of a length and of headers
abbrev pub IsHeaderFault : Refusal → Type 0
IsHeaderFault e = (e ≡ WrongLength) ⊎ (e ≡ NoHeader) ⊎ (e ≡ BadHeader)

-- the faults of an image
abbrev pub IsImageFault : Refusal → Type 0
IsImageFault e = IsHeaderFault e ⊎ (e ≡ BadPage) ⊎ (e ≡ BadRecord)

-- why the area in force can't be read: it shows no memory, memory is short, or a call of the disk failed
abbrev pub MayRefuseArea : Refusal → Type 0
MayRefuseArea e = (e ≡ BadPage) ⊎ (e ≡ NoMemory) ⊎ (e ≡ Device)

-- why an image can't be read: it has a fault, memory is short, or a call of the disk failed
abbrev pub MayRefuseImage : Refusal → Type 0
MayRefuseImage e = (e ≡ NoMemory) ⊎ (e ≡ Device) ⊎ IsImageFault e

-- why an image can't be opened: it can't be read, or it is of the first version
abbrev pub MayRefuseOpening : Refusal → Type 0
MayRefuseOpening e = (e ≡ OldVersion) ⊎ MayRefuseImage e

-- the faults of a length and of headers, by the versions that are taken
abbrev pub MayRefuseHeader : Versions → Refusal → Type 0
MayRefuseHeader Any = IsHeaderFault
MayRefuseHeader InUse = λ e. (e ≡ OldVersion) ⊎ IsHeaderFault e
MayRefuseHeader First = IsHeaderFault

-- why an image can't be read, by the versions that are taken
abbrev pub MayRefuse : Versions → Refusal → Type 0
MayRefuse Any = MayRefuseImage
MayRefuse InUse = MayRefuseOpening
MayRefuse First = MayRefuseImage

-- the layout of an image with these header places
abbrev pub layout_at : List ℕ → List ℕ → Layout
layout_at zero one = layout_named (header_in (place_in_force zero one)).version

-- why a sound header with this number isn't taken
abbrev pub version_fault : Versions → ℕ → Option Refusal
version_fault Any number = None
version_fault InUse number = if number == 1 then Some OldVersion else None
version_fault First number = if number == 1 then None else Some BadHeader

-- the layout by which an image with this number is read
abbrev pub layout_read : Versions → ℕ → Layout
layout_read Any number = layout_named number
layout_read InUse number = layout_in_use
layout_read First number = layout_1

-- the first fault of a file of this length, which has room for two header places: that of the places, the version that
-- isn't taken, or the length
abbrev pub beginning_fault : Versions → ℕ → List ℕ → List ℕ → Option Refusal
beginning_fault versions length zero one =
    let h = header_in (place_in_force zero one) in
    or_else (place_fault (layout_at zero one) zero one)
    (or_else (version_fault versions h.version)
    (if length == image_length (layout_at zero one) h.sizes then None else Some WrongLength))

-- the first fault of a file's length and headers
abbrev pub first_fault : Versions → List ℕ → Option Refusal
first_fault versions file =
    if nat_lt (length file) (page_bytes + page_bytes) then Some WrongLength
    else beginning_fault versions (length file) (header_place 0 file) (header_place 1 file)
