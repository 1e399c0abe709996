-- Slots that hold a group: what they spell, and how that depends on their bytes.
use Rattle.std.proofs.Common.{◌≡◌, ℕ, zero, suc, ◌+◌, ◌-◌, ◌^◌, ◌<◌, ◌≤◌, Bool, true, ◌&&◌, ◌⊎◌, List, [], ◌∷◌, ◌++◌}
use Rattle.std.proofs.Common.{length, drop, nat_lt, nat_le, Some, Option, sym, refl, ap, ◌∙◌, subst, arith, lt-ltb}
use Rattle.std.proofs.Common.{eq-eqb, le-leb}
use Rattle.im_types.specs.Types.{Command, Asks, Confirm, MAX_GROUP, LAST, slot_body, is_open, group_of, FitsCommand}
use Rattle.im_types.specs.Types.{sequence_of, read_in, Ring, slot_offset, with_first, if_true, leads, commands_in, slot}
use Rattle.im_types.specs.Types.{continues}
use Rattle.im_journal.proofs.{Runs.slots_at, Slots.goes_on, Slots.not_in, Slots.or_at, Slots.same_slot}
use Rattle.im_journal.proofs.Spelling.{group_of-spelled, read_in-spelled, sequence_of-spelled}
use Rattle.im_journal.specs.{Groups.AllFit, Groups.count_at, Groups.HasBodies, Groups.SameButGroup, Holding.StandAhead}

-- bytes behind which a body stands begin with some gate
gate_and_body : (bytes : List ℕ) (g s : ℕ) (c : Command) → drop 1 bytes ≡ slot_body g s c → (gate : ℕ)
    × (bytes ≡ gate ∷ slot_body g s c)
gate_and_body [] g s (Asks r) is = absurd (cc)
gate_and_body [] g s (Confirm element upto) is = absurd (cc)
gate_and_body (gate ∷ bytes) g s c is = (gate, ap (λ (l : List ℕ). gate ∷ l) is)

-- what a slot behind whose gate a body stands reads as
pub record ReadsAs (bytes : List ℕ) (g s : ℕ) (c : Command) : Type 0 where
  pub sequence : sequence_of bytes ≡ s
  pub group : group_of bytes ≡ g
  pub read : read_in g bytes ≡ Some c

pub reads_as : (bytes : List ℕ) (g s : ℕ) (c : Command) → drop 1 bytes ≡ slot_body g s c → FitsCommand c → s < 2 ^ 64
    → ReadsAs bytes g s c
reads_as bytes g s c is fits low =
    let whole = gate_and_body bytes g s c is in
    record {
      sequence = ap sequence_of whole.1 ∙ sequence_of-spelled g whole.0 s c low;
      group = ap group_of whole.1 ∙ group_of-spelled g whole.0 s c;
      read = ap (λ (l : List ℕ). read_in g l) whole.1 ∙ read_in-spelled g whole.0 s c fits low;
    }

-- the first slot of a group goes on with a run, and all of them spell its commands
pub record LedBy (r : Ring) (g n : ℕ) (commands : List Command) (file : List ℕ) : Type 0 where
  pub continues : continues (slot r n file) n ≡ true
  pub group : group_of (slot r n file) ≡ g
  pub read : commands_in 0 n (slots_at r g n file) ≡ Some commands

module _ (r : Ring) (file : List ℕ) where
  followers_spell : (s : ℕ) (commands : List Command) → AllFit commands → s + length commands ≤ LAST
      → HasBodies r 0 s commands file
      → commands_in (length commands) s (slots_at r (length commands) s file) ≡ Some commands
  followers_spell s [] fits low bodies = refl
  followers_spell s (c ∷ commands) fits low bodies =
      let here = reads_as (slot r s file) 0 s c bodies.0 fits.0 (omega (arith, low)) in
      ap (λ (b : Bool). with_first (if_true b (read_in 0 (slot r s file)))
      (commands_in (length commands) (s + 1) (slots_at r (length commands) (s + 1) file)))
      (eq-eqb (sequence_of (slot r s file)) s here.sequence)
      ∙ ap (λ (o : Option Command). with_first o
      (commands_in (length commands) (s + 1) (slots_at r (length commands) (s + 1) file))) here.read
      ∙ ap (λ (o : Option (List Command)). with_first (Some c) o)
      (followers_spell (s + 1) commands fits.1 (omega (arith, low)) bodies.1)

  leads_so : (g n : ℕ) (bytes : List ℕ) → group_of bytes ≡ g → 0 < g → g ≤ MAX_GROUP → n + g ≤ LAST → leads n bytes
      ≡ true
  leads_so g n bytes is some few low =
      ap (λ (m : ℕ). nat_lt 0 m && nat_le m MAX_GROUP && nat_le (n + m) LAST) is
      ∙ ap (λ (b : Bool). b && nat_le g MAX_GROUP && nat_le (n + g) LAST) (lt-ltb 0 g some)
      ∙ ap (λ (b : Bool). b && nat_le (n + g) LAST) (le-leb g MAX_GROUP few)
      ∙ le-leb (n + g) LAST low

  one_less : (m : ℕ) → suc m - 1 ≡ m
  one_less m = omega arith

  pub led_by : (g n : ℕ) (commands : List Command) → 0 < g → length commands ≡ g → g ≤ MAX_GROUP → AllFit commands
      → n + g ≤ LAST
      → is_open (slot r n file) ≡ true → HasBodies r g n commands file → LedBy r g n commands file
  led_by g n [] some long few fits low opened bodies = absurd (omega (arith, some, long))
  led_by zero n (c ∷ commands) some long few fits low opened bodies = absurd (omega (arith, some))
  led_by (suc g) n (c ∷ commands) some long few fits low opened bodies =
      let here = reads_as (slot r n file) (suc g) n c bodies.0 fits.0 (omega (arith, low)) in
      let rest_long : length commands ≡ g = omega (arith, long) in
      let rest : commands_in g (n + 1) (slots_at r g (n + 1) file) ≡ Some commands =
      subst (λ (m : ℕ). commands_in m (n + 1) (slots_at r m (n + 1) file) ≡ Some commands) rest_long
      (followers_spell (n + 1) commands fits.1 (omega (arith, low, rest_long)) bodies.1) in
      record {
        continues = goes_on (slot r n file) n opened here.sequence (lt-ltb n LAST (omega (arith, low)));
        group = here.group;
        read =
            ap (λ (b : Bool). with_first (if_true b (read_in (group_of (slot r n file)) (slot r n file)))
            (commands_in (group_of (slot r n file) - 1) (n + 1) (slots_at r g (n + 1) file)))
            (leads_so (suc g) n (slot r n file) here.group some few low)
            ∙ ap (λ (m : ℕ). with_first (read_in m (slot r n file))
            (commands_in (m - 1) (n + 1) (slots_at r g (n + 1) file))) here.group
            ∙ ap (λ (m : ℕ). with_first (read_in (suc g) (slot r n file))
            (commands_in m (n + 1) (slots_at r g (n + 1) file))) (one_less g)
            ∙ ap (λ (o : Option Command). with_first o (commands_in g (n + 1) (slots_at r g (n + 1) file))) here.read
            ∙ ap (λ (o : Option (List Command)). with_first (Some c) o) rest;
      }

-- the bodies of a group stand where what is behind its gates is the same
pub same_bodies : (r : Ring) (c d : List ℕ) (g s : ℕ) (commands : List Command)
    → ((k : ℕ) → k < length commands → drop 1 (slot r (s + k) d) ≡ drop 1 (slot r (s + k) c))
    → HasBodies r g s commands c → HasBodies r g s commands d
same_bodies r c d g s [] same bodies = tt
same_bodies r c d g s (command ∷ commands) same bodies =
    let zeroth : s + 0 ≡ s = omega arith in
    let here : drop 1 (slot r s d)
    ≡ drop 1 (slot r s c) = subst (λ (m : ℕ). drop 1 (slot r m d) ≡ drop 1 (slot r m c)) zeroth
    (same 0 (omega arith)) in (
      here ∙ bodies.0,
      same_bodies r c d 0 (s + 1) commands
          (λ k less. let next : s + suc k
          ≡ s + 1 + k = omega arith in subst (λ (m : ℕ). drop 1 (slot r m d) ≡ drop 1 (slot r m c)) next
          (same (suc k) (omega (arith, less)))) bodies.1,
    )

-- no commands stand everywhere
pub none_there : (r : Ring) (s : ℕ) (commands : List Command) (file : List ℕ) → commands ≡ []
    → StandAhead r s commands file
none_there r s commands file none = subst (λ (l : List Command). StandAhead r s l file) (sym none)
    (record { bodies = tt; fits = tt })

-- commands stand where what is behind their gates is the same
pub same_there : (r : Ring) (c d : List ℕ) (s : ℕ) (commands : List Command)
    → ((k : ℕ) → k < length commands → drop 1 (slot r (s + k) d) ≡ drop 1 (slot r (s + k) c))
    → StandAhead r s commands c → StandAhead r s commands d
same_there r c d s commands same there = record {
  bodies = same_bodies r c d (length commands) s commands same there.bodies;
  fits = there.fits;
}

-- a body more, behind the others
pub bodies_push : (r : Ring) (file : List ℕ) (g s : ℕ) (commands : List Command) (c : Command)
    → HasBodies r g s commands file
    → drop 1 (slot r (s + length commands) file) ≡ slot_body (count_at g (length commands)) (s + length commands) c
    → HasBodies r g s (commands ++ c ∷ []) file
bodies_push r file g s [] c bodies is =
    let zeroth : s + 0 ≡ s = omega arith in
    (subst (λ (m : ℕ). drop 1 (slot r m file) ≡ slot_body g m c) zeroth is, tt)
bodies_push r file g s (first ∷ commands) c bodies is =
    let next : s + suc (length commands) ≡ s + 1 + length commands = omega arith in (
      bodies.0,
      bodies_push r file 0 (s + 1) commands c bodies.1
          (subst (λ (m : ℕ). drop 1 (slot r m file) ≡ slot_body 0 m c) next is
          ∙ ap (λ (m : ℕ). slot_body m (s + 1 + length commands) c) (sym (none_behind (length commands)))),
    )
  where
    none_behind : (k : ℕ) → count_at 0 k ≡ 0
    none_behind zero = refl
    none_behind (suc k) = refl

pub fits_push : (commands : List Command) (c : Command) → AllFit commands → FitsCommand c → AllFit (commands ++ c ∷ [])
fits_push [] c fits one = (one, tt)
fits_push (first ∷ commands) c fits one = (fits.0, fits_push commands c fits.1 one)

-- a slot beside those of a group stays where the group is written
pub beside_group : (r : Ring) (n g i : ℕ) (d c : List ℕ) → 0 < g → SameButGroup r n g d c
    → ((k j : ℕ) → k < g → slot_offset r i ≤ j → j < slot_offset r i + 64 → (j < slot_offset r (n + k))
    ⊎ (slot_offset r (n + k) + 64 ≤ j)) → slot r i c ≡ slot r i d
beside_group r n g i d c some same beside = same_slot r i c d same.size (λ j lo hi. same.same j
    (λ is. let first : n ≡ n + 0 = omega arith in not_in j (slot_offset r (n + 0)) (beside 0 j some lo hi)
    (is ∙ ap (λ (m : ℕ). slot_offset r m) first))
    (λ k less. or_at j (slot_offset r (n + k)) (beside k j less lo hi)))
