-- What the versions that are taken come to: the first fault of a file, and the outcome of reading it.
use Rattle.std.proofs.Common.{◌≡◌, ℕ, ◌≤◌, Bool, true, false, not, ◌&&◌, ◌||◌, ◌⊎◌, List, length, is_none, IfOk}
use Rattle.std.proofs.Common.{if◌then◌else◌, nat_lt, nat_le, ◌==◌, slice_range, Some, None, Ok, Err, Option, Result}
use Rattle.std.proofs.Common.{unwrap_or, sym, refl, ap, ◌∙◌, subst, inl, inr}
use Rattle.im_types.specs.Types.{Refusal, Device, WrongLength, NoHeader, BadHeader, OldVersion, LAST, Layout, layout_1}
use Rattle.im_types.specs.Types.{layout_2, layout_named, layout_in_use, are_sizes, image_length, same_bytes, Header}
use Rattle.im_types.specs.Types.{header_body, header_in, spells_header, header_place, is_open_header, number_in_force}
use Rattle.im_types.specs.Types.{place_in_force, are_ambiguous, place_fault, header_of, or_else, header_fault}
use Rattle.im_types.specs.Types.{layout_in, is_old, Reached, Reads, OpensBy, Opens}
use Rattle.im_image.{proofs.ImageStart.fault_of_long, proofs.Outcomes.reads-fault, specs.Reading.ReadsBy}
use Rattle.im_image.specs.declared.{header.Header.Header as CodeHeader, reading.ImageParts.ImageParts}
use Rattle.im_image.specs.declared.versions.Versions.{TheVariants.Any, TheVariants.First, TheVariants.InUse, Versions}
use Rattle.im_image.specs.Headers.{first_fault, IsHeaderFault, layout_read, MayRefuse, MayRefuseHeader, MayRefuseImage}
use Rattle.im_image.specs.Headers.{version_fault}

-- ---- the reasons

pub header_may : (versions : Versions) (e : Refusal) → IsHeaderFault e → MayRefuseHeader versions e
header_may Any e fault = fault
header_may InUse e fault = inr fault
header_may First e fault = fault

pub image_may : (versions : Versions) (e : Refusal) → MayRefuseImage e → MayRefuse versions e
image_may Any e why = why
image_may InUse e why = inr why
image_may First e why = why

pub refused_may : (versions : Versions) (e : Refusal) → (e ≡ Device) ⊎ MayRefuseHeader versions e → MayRefuse versions e
refused_may Any e (inl device) = inr (inl device)
refused_may Any e (inr fault) = inr (inr (inl fault))
refused_may InUse e (inl device) = inr (inr (inl device))
refused_may InUse e (inr (inl old)) = inl old
refused_may InUse e (inr (inr fault)) = inr (inr (inr (inl fault)))
refused_may First e (inl device) = inr (inl device)
refused_may First e (inr fault) = inr (inr (inl fault))

-- ---- the layout

-- a number that isn't the first version's stands for the layout in use
pub named_by : (b : Bool) → b ≡ false → (if b then layout_1 else layout_2) ≡ layout_in_use
named_by b other = ap (λ (x : Bool). if x then layout_1 else layout_2) other

first_by : (b : Bool) → b ≡ true → (if b then layout_1 else layout_2) ≡ layout_1
first_by b first = ap (λ (x : Bool). if x then layout_1 else layout_2) first

-- the tests of a version that is taken
abbrev old_fault : Bool → Option Refusal
old_fault old = if old then Some OldVersion else None

abbrev other_fault : Bool → Option Refusal
other_fault first = if first then None else Some BadHeader

taken_young : (b : Bool) → old_fault b ≡ None → b ≡ false
taken_young true e = absurd (cc)
taken_young false e = refl

taken_first : (b : Bool) → other_fault b ≡ None → b ≡ true
taken_first true e = refl
taken_first false e = absurd (cc)

-- the layout of an image whose version is taken is the one by which it is read
layout_taken : (versions : Versions) (number : ℕ) → version_fault versions number ≡ None → layout_named number
    ≡ layout_read versions number
layout_taken Any number taken = refl
layout_taken InUse number taken = named_by (number == 1) (taken_young (number == 1) taken)
layout_taken First number taken = first_by (number == 1) (taken_first (number == 1) taken)

pub version_read : (r : Result ImageParts Refusal) (versions : Versions) (h : CodeHeader)
    → version_fault versions h.version ≡ None → IfOk r (λ i. i.header ≡ h)
    → IfOk r (λ i. layout_named i.header.version ≡ layout_read versions i.header.version)
version_read (Ok i) versions h taken same =
    subst (λ (x : CodeHeader). layout_named x.version ≡ layout_read versions x.version) (sym same)
    (layout_taken versions h.version taken)
version_read (Err e) versions h taken same = tt

-- ---- the outcome

opens_by : (b c : Bool) (file : List ℕ) (outcome : Result Reached Refusal) → b ≡ c → OpensBy c file outcome
    → OpensBy b file outcome
opens_by b c file outcome same it = subst (λ (x : Bool). OpensBy x file outcome) (sym same) it

young : (a v n : Bool) → v ≡ false → (a && v && n) ≡ false
young true true n other = cc
young true false n other = refl
young false v n other = refl

-- a file that isn't of the first version is opened as it is read
opens_young : (file : List ℕ) (outcome : Result Reached Refusal) → ((header_of file).version == 1) ≡ false
    → Reads (layout_in file) file outcome → Opens file outcome
opens_young file outcome other reads = opens_by (is_old file) false file outcome
    (young (not (nat_lt (length file) 8192)) ((header_of file).version == 1)
    (is_none (place_fault (layout_in file) (header_place 0 file) (header_place 1 file))) other) reads

-- and what opening it comes to is what reading it does
pub young_opens : (file : List ℕ) (outcome : Result Reached Refusal) → ((header_of file).version == 1) ≡ false
    → Opens file outcome → Reads (layout_in file) file outcome
young_opens file outcome other opens = opens_by false (is_old file) file outcome
    (sym (young (not (nat_lt (length file) 8192)) ((header_of file).version == 1)
    (is_none (place_fault (layout_in file) (header_place 0 file) (header_place 1 file))) other)) opens

-- a file whose version is taken is read by its own layout
pub reads_by : (versions : Versions) (file : List ℕ) (outcome : Result Reached Refusal)
    → version_fault versions (header_of file).version ≡ None → Reads (layout_in file) file outcome
    → ReadsBy versions file outcome
reads_by Any file outcome taken reads = reads
reads_by InUse file (Ok r) taken reads =
    subst (λ (l : Layout). Reads l file (Ok r)) (layout_taken InUse (header_of file).version taken) reads
reads_by InUse file (Err e) taken reads =
    opens_young file (Err e) (taken_young ((header_of file).version == 1) taken) reads
reads_by First file outcome taken reads =
    subst (λ (l : Layout). Reads l file outcome) (layout_taken First (header_of file).version taken) reads

-- ---- the first fault

-- the first fault of a file, by whether it is short, and by the faults of its header places, version and length
abbrev in_order : Bool → Option Refusal → Option Refusal → Option Refusal → Option Refusal
in_order short places version length = if short then Some WrongLength else or_else places (or_else version length)

no_fault : (short : Bool) (places version length : Option Refusal) → in_order short places version length ≡ None
    → in_order short places None length ≡ None
no_fault true places version length good = good
no_fault false (Some e) version length good = good
no_fault false None None length good = good
no_fault false None (Some e) length good = absurd (cc)

abbrev places_of : List ℕ → Option Refusal
places_of file = place_fault (layout_in file) (header_place 0 file) (header_place 1 file)

abbrev length_by : Layout → List ℕ → Option Refusal
length_by l file = if length file == image_length l (header_of file).sizes then None else Some WrongLength

-- a file without a first fault has none by its own layout
pub sound : (versions : Versions) (file : List ℕ) → first_fault versions file ≡ None
    → header_fault (layout_in file) file ≡ None
sound versions file good =
    no_fault (nat_lt (length file) 8192) (places_of file) (version_fault versions (header_of file).version)
    (length_by (layout_in file) file) good

-- an old version is the first fault if neither the file is short nor its header places have one
in_use : (short old : Bool) (places length : Option Refusal) → in_order short places (old_fault old) length
    ≡ (if not short && old && is_none places then Some OldVersion else in_order short places None length)
in_use true old places length = refl
in_use false true None length = refl
in_use false true (Some e) length = refl
in_use false false None length = refl
in_use false false (Some e) length = refl

opens_fault_by : (b : Bool) (file : List ℕ) (e : Refusal)
    → (if b then Some OldVersion else header_fault (layout_in file) file) ≡ Some e → OpensBy b file (Err e)
opens_fault_by true file e fault = ap (λ (o : Option Refusal). Err (unwrap_or o e)) (sym fault)
opens_fault_by false file e fault = reads-fault (layout_in file) file e fault

opens_fault : (file : List ℕ) (e : Refusal) → first_fault InUse file ≡ Some e → Opens file (Err e)
opens_fault file e fault = opens_fault_by (is_old file) file e
    (sym (in_use (nat_lt (length file) 8192) ((header_of file).version == 1) (places_of file)
    (length_by (layout_in file) file)) ∙ fault)

-- a fault of its header places is why a file isn't opened
pub places_open : (file : List ℕ) (e : Refusal) → 8192 ≤ length file
    → place_fault (layout_in file) (header_place 0 file) (header_place 1 file) ≡ Some e → Opens file (Err e)
places_open file e room fault = opens_fault file e
    (fault_of_long InUse file room
    ∙ ap (λ (o : Option Refusal). or_else o (or_else (old_fault ((header_of file).version == 1))
    (length_by (layout_in file) file))) fault)

none_spelled : (same v : Bool) (a b c d e : Bool) → v ≡ false → (same && (v && a && b && c && d && e)) ≡ false
none_spelled true v a b c d e other = ap (λ (x : Bool). x && a && b && c && d && e) other
none_spelled false v a b c d e other = refl

-- a header of another version isn't spelled by the rules of the first one
not_spelled : (number : ℕ) (bytes : List ℕ) → ((header_in bytes).version == 1) ≡ false
    → spells_header layout_1 number bytes ≡ false
not_spelled number bytes other =
    let h : Header = header_in bytes in
    none_spelled (same_bytes (slice_range bytes 1 64) (header_body h)) (h.version == 1) (h.area == number)
    (nat_le 1 h.generation) (nat_le h.generation LAST) (nat_le h.count LAST) (are_sizes layout_1 h.sizes) other

abbrev places_by : Bool → Bool → Bool → Option Refusal
places_by closed ambiguous spelled =
    if closed then Some NoHeader else if ambiguous || not spelled then Some BadHeader else None

-- so another version is a bad header by those rules, if the header places have no other fault
unspelled : (short closed ambiguous spelled : Bool) (length other : Option Refusal)
    → in_order short (places_by closed ambiguous spelled) (Some BadHeader) length
    ≡ in_order short (places_by closed ambiguous false) None other
unspelled true closed ambiguous spelled length other = refl
unspelled false true ambiguous spelled length other = refl
unspelled false false true spelled length other = refl
unspelled false false false true length other = refl
unspelled false false false false length other = refl

-- the first fault of a file of which the first version is wanted, by whether it is of that version
abbrev by_first : List ℕ → Bool → Option Refusal
by_first file first =
    let l = if first then layout_1 else layout_2 in
    in_order (nat_lt (length file) 8192) (place_fault l (header_place 0 file) (header_place 1 file)) (other_fault first)
    (length_by l file)

by_version : (file : List ℕ) (first : Bool) → ((header_of file).version == 1) ≡ first → by_first file first
    ≡ header_fault layout_1 file
by_version file true is = refl
by_version file false is =
    let zero = header_place 0 file in
    let one = header_place 1 file in
    let short = nat_lt (length file) 8192 in
    let closed = not (is_open_header zero || is_open_header one) in
    unspelled short closed (are_ambiguous zero one)
    (spells_header layout_2 (number_in_force zero one) (place_in_force zero one)) (length_by layout_2 file)
    (length_by layout_1 file)
    ∙ ap (λ (b : Bool). in_order short (places_by closed (are_ambiguous zero one) b) None (length_by layout_1 file))
    (sym (not_spelled (number_in_force zero one) (place_in_force zero one) is))

pub fault_reads : (versions : Versions) (file : List ℕ) (e : Refusal) → first_fault versions file ≡ Some e
    → ReadsBy versions file (Err e)
fault_reads Any file e fault = reads-fault (layout_in file) file e fault
fault_reads InUse file e fault = opens_fault file e fault
fault_reads First file e fault =
    reads-fault layout_1 file e (sym (by_version file ((header_of file).version == 1) refl) ∙ fault)
