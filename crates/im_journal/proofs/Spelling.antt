-- A slot reads back the command that it spells, and no other bytes read so.
use Rattle.std.proofs.Common.{◌≡◌, ℕ, ◌^◌, ◌<◌, Bool, true, false, List, [], ◌∷◌, ◌++◌, length, take, drop}
use Rattle.std.proofs.Common.{if◌then◌else◌, Some, None, Option, option_and_then, sym, refl, ap, ◌∙◌, arith}
use Rattle.std.proofs.Common.{length-drop, take_all}
use Rattle.byteorder.specs.{Endian.little_bytes, Endian.little_number, Numbers.little_number-reads_back}
use Rattle.std.proofs.lemmas.Slice.Eq.{bytes_eq-Decides}
use Rattle.im_types.specs.Types.{Op, I, M, Alloc, Release, Reset, Fetch, Store, Take, Put, Command, Asks, Confirm}
use Rattle.im_types.specs.Types.{address_of, open_gate, same_bytes, op_code, op_value, slot_fields, slot_body, op_of}
use Rattle.im_types.specs.Types.{command_of, group_of, if_spelled_in, FitsCommand, sequence_of, command_in, read_in}
use Rattle.im_types.proofs.Tests.{false_true}

op_of-spelled : (op : Op) → op_of (op_code op) (address_of op) (op_value op) ≡ Some op
op_of-spelled (Alloc I n) = refl
op_of-spelled (Alloc M n) = refl
op_of-spelled (Release a) = refl
op_of-spelled (Reset a) = refl
op_of-spelled (Fetch a) = refl
op_of-spelled (Store a v) = refl
op_of-spelled (Take a) = refl
op_of-spelled (Put a v) = refl

-- a whole slot, by its gate and fields
abbrev whole : ℕ → ℕ → ℕ → ℕ → ℕ → ℕ → ℕ → ℕ → List ℕ
whole g gate code element sequence number address value = gate ∷ slot_fields g code element sequence number address value

abbrev read_number : ℕ → ℕ → ℕ
read_number n x = little_number n (little_bytes n x ++ [])

command_in-whole : (g gate code element sequence number address value : ℕ) → element < 2 ^ 16 → number < 2 ^ 64
    → address < 2 ^ 32 → value < 2 ^ 64
    → command_in (whole g gate code element sequence number address value)
    ≡ command_of code element number (op_of code address value)
unfolding command_in
command_in-whole g gate code element sequence number address value fits_element fits_number fits_address fits_value =
    let e : read_number 2 element ≡ element = little_number-reads_back 2 element [] fits_element in
    let n : read_number 8 number ≡ number = little_number-reads_back 8 number [] fits_number in
    let a : read_number 4 address ≡ address = little_number-reads_back 4 address [] fits_address in
    let v : read_number 8 value ≡ value = little_number-reads_back 8 value [] fits_value in
    ap (λ (x : ℕ). command_of code x (read_number 8 number)
    (op_of code (read_number 4 address) (read_number 8 value))) e
    ∙ ap (λ (x : ℕ). command_of code element x (op_of code (read_number 4 address) (read_number 8 value))) n
    ∙ ap (λ (x : ℕ). command_of code element number (op_of code x (read_number 8 value))) a
    ∙ ap (λ (x : ℕ). command_of code element number (op_of code address x)) v

sequence_of-whole : (g gate code element sequence number address value : ℕ) → sequence < 2 ^ 64
    → sequence_of (whole g gate code element sequence number address value) ≡ sequence
unfolding sequence_of
sequence_of-whole g gate code element sequence number address value fits = little_number-reads_back 8 sequence [] fits

pub command_in-spelled : (g gate s : ℕ) (c : Command) → FitsCommand c → command_in (gate ∷ slot_body g s c) ≡ Some c
command_in-spelled g gate s (Asks r) fits =
    command_in-whole g gate (op_code r.op) r.element s r.number (address_of r.op)
    (op_value r.op) fits.0 fits.1 fits.2.address fits.2.value
    ∙ ap (λ (o : Option Op). command_of (op_code r.op) r.element r.number o) (op_of-spelled r.op)
command_in-spelled g gate s (Confirm element upto) fits = command_in-whole g gate 8 element s upto 0 0 fits.0 fits.1
    (omega arith) (omega arith)

-- a slot has the sequence number that it was spelled under
pub sequence_of-spelled : (g gate s : ℕ) (c : Command) → s < 2 ^ 64 → sequence_of (gate ∷ slot_body g s c) ≡ s
sequence_of-spelled g gate s (Asks r) fits = sequence_of-whole g gate (op_code r.op) r.element s r.number
    (address_of r.op) (op_value r.op) fits
sequence_of-spelled g gate s (Confirm element upto) fits = sequence_of-whole g gate 8 element s upto 0 0 fits

-- and the group count
pub group_of-spelled : (g gate s : ℕ) (c : Command) → group_of (gate ∷ slot_body g s c) ≡ g
group_of-spelled g gate s (Asks r) = refl
group_of-spelled g gate s (Confirm element upto) = refl

abbrev if_ : Bool → Option Command → Option Command → Option Command
if_ b x y = if b then x else y

same_self : (xs : List ℕ) → same_bytes xs xs ≡ true
same_self xs = (bytes_eq-Decides xs xs).1 refl

-- whatever the gate is, a slot reads back the command that it spells
pub read_in-spelled : (g gate s : ℕ) (c : Command) → FitsCommand c → s < 2 ^ 64 → read_in g (gate ∷ slot_body g s c)
    ≡ Some c
unfolding read_in
read_in-spelled g gate s c fits fits_s =
    ap (λ (o : Option Command). option_and_then (if_spelled_in g (gate ∷ slot_body g s c)) o)
    (command_in-spelled g gate s c fits)
    ∙ ap (λ (n : ℕ). if_ (same_bytes (slot_body g s c) (slot_body g n c)) (Some c) None)
    (sequence_of-spelled g gate s c fits_s)
    ∙ ap (λ (b : Bool). if_ b (Some c) None) (same_self (slot_body g s c))

-- what reads as a command
pub record Spells (g : ℕ) (slot : List ℕ) (c : Command) : Type 0 where
  pub fields : command_in slot ≡ Some c
  pub bytes : drop 1 slot ≡ slot_body g (sequence_of slot) c

checked : (g : ℕ) (slot : List ℕ) (d c : Command) (b : Bool)
    → same_bytes (drop 1 slot) (slot_body g (sequence_of slot) d) ≡ b → if_ b (Some d) None ≡ Some c → (d ≡ c)
    × (drop 1 slot ≡ slot_body g (sequence_of slot) d)
checked g slot d c true test e = (cc, (bytes_eq-Decides (drop 1 slot) (slot_body g (sequence_of slot) d)).0 test)
checked g slot d c false test e = absurd (cc)

found : (g : ℕ) (slot : List ℕ) (o : Option Command) (c : Command) → command_in slot ≡ o
    → option_and_then (if_spelled_in g slot) o ≡ Some c → Spells g slot c
found g slot None c is e = absurd (cc)
found g slot (Some d) c is e =
    let parts = checked g slot d c (same_bytes (drop 1 slot) (slot_body g (sequence_of slot) d)) refl e in
    record {
      fields = is ∙ ap (λ (x : Command). Some x) parts.0;
      bytes = parts.1
          ∙ ap (λ (x : Command). slot_body g (sequence_of slot) x) parts.0;
    }

pub read_in-only : (g : ℕ) (slot : List ℕ) (c : Command) → read_in g slot ≡ Some c → Spells g slot c
unfolding read_in
read_in-only g slot c e = found g slot (command_in slot) c refl e

differs : (xs ys : List ℕ) (t : Bool) → same_bytes xs ys ≡ false → same_bytes ys xs ≡ t → same_bytes ys xs ≡ false
differs xs ys true differ is_same = absurd
    (false_true (sym differ ∙ ap (λ (l : List ℕ). same_bytes xs l) ((bytes_eq-Decides ys xs).0 is_same) ∙ same_self xs))
differs xs ys false differ is_same = is_same

turned : (xs ys : List ℕ) (t : Bool) → same_bytes xs ys ≡ t → same_bytes ys xs ≡ t
turned xs ys true same = ap (λ (l : List ℕ). same_bytes ys l) ((bytes_eq-Decides xs ys).0 same) ∙ same_self ys
turned xs ys false differ = differs xs ys (same_bytes ys xs) differ refl

-- a body is 63 bytes, behind the gate of a slot that was spelled
pub length-body : (g s : ℕ) (c : Command) → length (slot_body g s c) ≡ 63
length-body g s (Asks r) = refl
length-body g s (Confirm element upto) = refl

pub spelled_body : (g : ℕ) (spelled : List ℕ) (s : ℕ) (c : Command) → spelled ≡ open_gate ∷ slot_body g s c
    → take 63 (drop 1 spelled) ≡ slot_body g s c
spelled_body g spelled s c is = ap (λ (l : List ℕ). take 63 (drop 1 l)) is ∙ short c
  where
    short : (d : Command) → take 63 (slot_body g s d) ≡ slot_body g s d
    short (Asks r) = refl
    short (Confirm element upto) = refl

pub counted_body : (g s : ℕ) (spelled : List ℕ) (m n : ℕ) (c : Command) → spelled ≡ open_gate ∷ slot_body m n c → m
    ≡ g → n ≡ s → take 63 (drop 1 spelled) ≡ slot_body g s c
counted_body g s spelled m n c is count number = spelled_body m spelled n c is ∙ (λ i. slot_body (count i) (number i) c)

pub spelled_long : (g : ℕ) (spelled : List ℕ) (s : ℕ) (c : Command) → spelled ≡ open_gate ∷ slot_body g s c
    → length (take 63 (drop 1 spelled)) ≡ 63
spelled_long g spelled s c is = ap length (spelled_body g spelled s c is) ∙ length-body g s c

-- a slot is read by spelling what its fields stand for, and comparing all but the gate
pub read_in-compared : (g : ℕ) (slot spelled : List ℕ) (sequence : ℕ) (c : Command) (t : Bool) → length slot ≡ 64
    → command_in slot ≡ Some c → sequence ≡ sequence_of slot → spelled ≡ open_gate ∷ slot_body g sequence c
    → t ≡ same_bytes (take 63 (drop 1 spelled)) (take 63 (drop 1 slot)) → if_ t (Some c) None ≡ read_in g slot
unfolding read_in
read_in-compared g slot spelled sequence c t size is same_sequence is_spelled test =
    let body : take 63 (drop 1 spelled)
    ≡ slot_body g (sequence_of slot) c = spelled_body g spelled sequence c is_spelled
    ∙ ap (λ (n : ℕ). slot_body g n c) same_sequence in
    let whole_slot : take 63 (drop 1 slot)
    ≡ drop 1 slot = take_all 63 (drop 1 slot) (omega (arith, length-drop 1 slot)) in
    let compared : same_bytes (slot_body g (sequence_of slot) c) (drop 1 slot)
    ≡ t = ap (λ (l : List ℕ). same_bytes l (drop 1 slot)) (sym body)
    ∙ ap (λ (l : List ℕ). same_bytes (take 63 (drop 1 spelled)) l) (sym whole_slot) ∙ sym test in
    sym (ap (λ (o : Option Command). option_and_then (if_spelled_in g slot) o) is
    ∙ ap (λ (b : Bool). if_ b (Some c) None) (turned (slot_body g (sequence_of slot) c) (drop 1 slot) t compared))

-- nothing reads where the fields stand for nothing
pub read_in-none : (g : ℕ) (slot : List ℕ) → command_in slot ≡ None → read_in g slot ≡ None
unfolding read_in
read_in-none g slot is = ap (λ (o : Option Command). option_and_then (if_spelled_in g slot) o) is
