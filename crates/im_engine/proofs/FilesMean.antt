-- A file means one thing, and a new image the empty memory.
use Rattle.std.proofs.Common.{◌≡◌, ℕ, ◌<◌, Bool, true, false, ◌⊎◌, List, [], if◌then◌else◌, nat_le, ◌==◌, Some, None}
use Rattle.std.proofs.Common.{Ok, Err, Option, Result, MatchOption, sym, refl, ap, ◌∙◌, subst, inl, inr, arith}
use Rattle.std.proofs.lemmas.Bool.Decides.{nat_tests}
use Rattle.im_types.specs.Types.{Refusal, BadPage, LAST, AreLimits, Contents, empty_contents, Version, One, Two, Layout}
use Rattle.im_types.specs.Types.{layout_1, layout_2, layout_of, layout_named, layout_in_use, Sizes, are_sizes, ring_of}
use Rattle.im_types.specs.Types.{area_of, Header, is_header, header_of, header_fault, is_old, Shows, Reached}
use Rattle.im_types.specs.Types.{read_journal, IsShown, Reads, OpensBy, Opens, Means}
use Rattle.{im_types.proofs.Tests.and_both, im_types.proofs.Tests.true_false, im_laws.proofs.MemoryLemmas.empty-memory}
use Rattle.{im_journal.proofs.Tails.tail_closed, im_checkpoint.proofs.Headers.good}
use Rattle.im_meaning.proofs.{Headers.in_force, Headers.in_force_is, Meanings.image_reads, Meanings.read_image}
use Rattle.im_meaning.specs.Images.{InForce, IsImage, IsRead}
use Rattle.im_image.proofs.FreshImage.{new_header_of, new_image_good, new_image_shows}
use Rattle.im_image.{proofs.Headers.limits_of_header, proofs.Restored.one-memory, proofs.VersionLemmas.named_by}
use Rattle.im_image.{proofs.VersionLemmas.young_opens, specs.Fresh.new_header, specs.Fresh.new_image}
use Rattle.im_engine.{proofs.Making.new_image_closed, specs.State.IsFirstFault}

same_number : (m n : ℕ) → (m == n) ≡ true → m ≡ n
same_number m n is = grind (arith, nat_tests)

-- a version's number stands for its layout
named : (v : Version) → layout_named (layout_of v).version ≡ layout_of v
named One = refl
named Two = refl

-- a header of a version has its number
version_of : (l : Layout) (area : ℕ) (h : Header) → is_header l area h ≡ true → h.version ≡ l.version
version_of l area h is =
    let e = and_both _ (are_sizes l h.sizes) is in
    let d = and_both _ (nat_le h.count LAST) e.0 in
    let c = and_both _ (nat_le h.generation LAST) d.0 in
    let b = and_both _ (nat_le 1 h.generation) c.0 in
    same_number h.version l.version (and_both (h.version == l.version) (h.area == area) b.0).0

limits_in : (v : Version) (file : List ℕ) → header_fault (layout_of v) file ≡ None
    → AreLimits (header_of file).sizes.cells (header_of file).sizes.elements (header_of file).sizes.slots
limits_in v file none =
    let it : InForce (layout_of v) (header_of file) file = in_force (layout_of v) file none in
    let is : is_header (layout_of v) (header_of file).area (header_of file) ≡ true =
    subst (λ (h : Header). is_header (layout_of v) (header_of file).area h ≡ true) it.fields
    (and_both _ _ it.spelled).1 in
    let same : layout_of v
    ≡ layout_named (header_of file).version = sym
    (ap layout_named (version_of (layout_of v) (header_of file).area (header_of file) is) ∙ named v) in
    limits_of_header (header_of file).area (header_of file)
    (subst (λ (l : Layout). is_header l (header_of file).area (header_of file) ≡ true) same is)

abbrev pub Outcome_by : Layout → List ℕ → Result Reached Refusal → Option Refusal → Type 0
Outcome_by l file outcome fault = MatchOption fault
    (((m : Contents) × IsShown l file m × (outcome ≡ read_journal l file m))
    ⊎ (((m : Contents) → IsShown l file m → ⊥) × (outcome ≡ Err BadPage)))
    (λ fault. outcome ≡ Err fault)

one_by : (v : Version) (file : List ℕ) (a b : Result Reached Refusal) (o : Option Refusal)
    → header_fault (layout_of v) file ≡ o → Outcome_by (layout_of v) file a o → Outcome_by (layout_of v) file b o → a
    ≡ b
one_by v file a b None none (inl x) (inl y) =
    let same : x.0 ≡ y.0 = one-memory v (header_of file).sizes
    (area_of (layout_of v) (header_of file).sizes (header_of file).area file) x.0 y.0
    (limits_in v file none) x.1 y.1 in
    x.2 ∙ ap (λ (m : Contents). read_journal (layout_of v) file m) same ∙ sym y.2
one_by v file a b None none (inl x) (inr y) = absurd (y.0 x.0 x.1)
one_by v file a b None none (inr x) (inl y) = absurd (x.0 y.0 y.1)
one_by v file a b None none (inr x) (inr y) = x.1 ∙ sym y.1
one_by v file a b (Some fault) is x y = x ∙ sym y

-- reading a file by a version comes to one thing
pub reads_one : (v : Version) (file : List ℕ) (a b : Result Reached Refusal) → Reads (layout_of v) file a
    → Reads (layout_of v) file b → a ≡ b
reads_one v file a b x y = one_by v file a b (header_fault (layout_of v) file) refl x y

reads_one_named : (first : Bool) (file : List ℕ) (a b : Result Reached Refusal)
    → Reads (if first then layout_1 else layout_2) file a → Reads (if first then layout_1 else layout_2) file b → a ≡ b
reads_one_named true file a b x y = reads_one One file a b x y
reads_one_named false file a b x y = reads_one Two file a b x y

opens_one_by : (old : Bool) (file : List ℕ) (a b : Result Reached Refusal) → OpensBy old file a → OpensBy old file b
    → a ≡ b
opens_one_by true file a b x y = x ∙ sym y
opens_one_by false file a b x y = reads_one_named ((header_of file).version == 1) file a b x y

-- and so does opening it
pub opens_one : (file : List ℕ) (a b : Result Reached Refusal) → Opens file a → Opens file b → a ≡ b
opens_one file a b x y = opens_one_by (is_old file) file a b x y

abbrev ok_or : Reached → Result Reached Refusal → Reached
ok_or d (Ok a) = a
ok_or d (Err e) = d

abbrev fails_as : Result Reached Refusal → Bool
fails_as (Ok a) = false
fails_as (Err e) = true

abbrev reached : Contents → ℕ → ℕ → Reached
reached m c r = record { contents = m; count = c; room = r }

abbrev read_as : Contents → ℕ → ℕ → Result Reached Refusal
read_as m c r = Ok (record { contents = m; count = c; room = r })

abbrev fault_as : Refusal → Result Reached Refusal
fault_as e = Err e

pub means_one : (file : List ℕ) (m n : Contents) (c d r s : ℕ) → Means m c r file → Means n d s file → (m ≡ n) × (c ≡ d)
means_one file m n c d r s x y =
    let same : read_as m c x.0 ≡ read_as n d y.0 = reads_one Two file (read_as m c x.0) (read_as n d y.0) x.2 y.2 in (
      ap (λ (z : Result Reached Refusal). (ok_or (reached m c x.0) z).contents) same,
      ap
          (λ (z : Result Reached Refusal). (ok_or (reached m c x.0) z).count) same,
    )

-- a file that means a memory isn't of the first version
version_young : (file : List ℕ) (r : Reached) → Reads layout_in_use file (Ok r) → ((header_of file).version == 1)
    ≡ false
version_young file r reads =
    let it : IsRead layout_in_use file r = read_image layout_in_use file r reads in
    let is : header_of file ≡ it.header = in_force_is layout_in_use it.header file it.image.in_force in
    ap (λ (h : Header). h.version == 1) is ∙ ap (λ (n : ℕ). n == 1) (good it.header file it.image.in_force).version

pub no_fault_and_meaning : (file : List ℕ) (e : Refusal) (m : Contents) (c r : ℕ) → IsFirstFault e file
    → Means m c r file → ⊥
no_fault_and_meaning file e m c r x y =
    let young = version_young file (reached m c y.0) y.2 in
    let reads = subst (λ (l : Layout). Reads l file (fault_as e)) (named_by ((header_of file).version == 1) young)
    (young_opens file (fault_as e) young x) in
    true_false (ap fails_as (reads_one Two file (fault_as e) (read_as m c y.0) reads y.2))

-- ---- a new image

-- it is an image: its header in force, the empty memory, and an empty journal
pub new_image_is_one : (s : Sizes) → AreLimits s.cells s.elements s.slots
    → IsImage layout_in_use (new_header s) (empty_contents s.cells s.elements) [] s.slots (new_image 0xA5 s)
new_image_is_one s limits =
    let file : List ℕ = new_image 0xA5 s in
    let m : Contents = empty_contents s.cells s.elements in
    let some : 0 < s.slots = omega (arith, limits.enough_slots) in
    let none : header_fault layout_in_use file ≡ None = new_image_good s limits in
    let shows : IsShown layout_in_use file m = new_image_shows s limits (empty-memory s.cells s.elements) in
    record {
      in_force = subst (λ (h : Header). InForce layout_in_use h file) (new_header_of s limits)
          (in_force layout_in_use file none);
      shows = subst (λ (h : Header). Shows layout_in_use h.sizes (area_of layout_in_use h.sizes h.area file) m)
          (new_header_of s limits) shows;
      journal = tail_closed (ring_of layout_in_use s) file some (new_image_closed s);
    }

pub new_image_means : (s : Sizes) → AreLimits s.cells s.elements s.slots
    → Means (empty_contents s.cells s.elements) 0 s.slots (new_image 0xA5 s)
new_image_means s limits =
    let m : Contents = empty_contents s.cells s.elements in (
      s.slots,
      omega arith,
      image_reads layout_in_use (new_header s) m m [] s.slots (new_image 0xA5 s) (new_image_is_one s limits) refl,
    )
