-- What an image means, from the parts that are read of it.
use Rattle.std.proofs.Common.{◌≡◌, ℕ, ◌+◌, ◌*◌, ◌≤◌, Bool, true, false, ◌&&◌, ◌⊎◌, List, [], ◌∷◌, length, IfOk, IfErr}
use Rattle.std.proofs.Common.{if◌then◌else◌, Some, None, Ok, Err, Option, Result, MatchOption, unwrap_or, sym, refl, ap}
use Rattle.std.proofs.Common.{◌∙◌, subst, inl, inr, ⊎_elim, arith}
use Rattle.im_types.specs.Types.{Command, Refusal, Device, NoMemory, BadPage, BadRecord, Contents, step, is_accepted}
use Rattle.im_types.specs.Types.{Layout, image_length, ring_of, Header, header_of, header_fault, layout_in, Tail, tail}
use Rattle.im_types.specs.Types.{Reached, can_stand, accept_in, reached_by, reached_after, read_journal, IsShown, Reads}
use Rattle.im_laws.proofs.MemoryLemmas.{step-cell_count, step-window_count}
use Rattle.im_disk.specs.{declared.Disk.Ghosts, Moment.Moment, Runs.ReadsOrRefuses}
use Rattle.im_image.proofs.OpenArea.{length_of_image}

-- the outcome of reading a file, by the fault of its headers
abbrev Outcome_by : Layout → List ℕ → Result Reached Refusal → Option Refusal → Type 0
Outcome_by l file outcome fault = MatchOption fault
    (((m : Contents) × IsShown l file m × (outcome ≡ read_journal l file m))
    ⊎ (((m : Contents) → IsShown l file m → ⊥) × (outcome ≡ Err BadPage)))
    (λ fault. outcome ≡ Err fault)

pub reads-fault : (l : Layout) (file : List ℕ) (fault : Refusal) → header_fault l file ≡ Some fault
    → Reads l file (Err fault)
reads-fault l file fault is = subst (λ (f : Option Refusal). Outcome_by l file (Err fault) f) (sym is) refl

pub reads-no-page : (l : Layout) (file : List ℕ) → header_fault l file ≡ None
    → ((m : Contents) → IsShown l file m → ⊥) → Reads l file (Err BadPage)
reads-no-page l file good none = subst (λ (f : Option Refusal). Outcome_by l file (Err BadPage) f) (sym good)
    (inr (none, refl))

module _ (l : Layout) (file : List ℕ) (h : Header) (m : Contents) (good : header_fault l file ≡ None)
    (is : h ≡ header_of file) (shown : IsShown l file m) where
  abbrev tail_in : Option Tail
  tail_in = tail (ring_of l h.sizes) h.count file

  reads-outcome : (outcome : Result Reached Refusal) → outcome ≡ reached_after l h.count m tail_in
      → Reads l file outcome
  reads-outcome outcome e =
      subst (λ (f : Option Refusal). Outcome_by l file outcome f) (sym good)
      (inl (
        m,
        shown,
        subst
            (λ (x : Header). outcome ≡ reached_after l x.count m (tail (ring_of l x.sizes) x.count file)) is e,
      ))

  pub reads-no-tail : tail_in ≡ None → Reads l file (Err BadRecord)
  reads-no-tail none = reads-outcome (Err BadRecord) (ap (λ (t : Option Tail). reached_after l h.count m t) (sym none))

  pub reads-unaccepted : (commands : List Command) (room : ℕ) → tail_in
      ≡ Some (record { commands = commands; room = room }) → accept_in l m commands ≡ None
      → Reads l file (Err BadRecord)
  reads-unaccepted commands room run none = reads-outcome (Err BadRecord) (sym
      (ap (λ (t : Option Tail). reached_after l h.count m t) run
      ∙ ap (λ (o : Option Contents). reached_by (h.count + length commands) room o) none))

  pub reads-all : (commands : List Command) (room count : ℕ) (new : Contents) → tail_in
      ≡ Some (record { commands = commands; room = room }) → accept_in l m commands ≡ Some new → count
      ≡ h.count + length commands
      → Reads l file (Ok (record { contents = new; count = count; room = room }))
  reads-all commands room count new run accepted counts = reads-outcome
      (Ok (record { contents = new; count = count; room = room }))
      (ap (λ (n : ℕ). reached_by n room (Some new)) counts
      ∙ sym (ap (λ (t : Option Tail). reached_after l h.count m t) run
      ∙ ap (λ (o : Option Contents). reached_by (h.count + length commands) room o) accepted))

-- the journal lies inside an image
pub in-room : (l : Layout) (file : List ℕ) (h : Header) → h ≡ header_of file → header_fault l file ≡ None
    → (ring_of l h.sizes).base + 64 * h.sizes.slots ≤ length file
in-room l file h is good =
    let size : length file ≡ image_length l (header_of file).sizes = length_of_image l file good in
    subst (λ (x : Header). (ring_of l x.sizes).base + 64 * x.sizes.slots ≤ length file) (sym is) (omega arith)

-- what was read at one moment holds of another at which the bytes are the same
pub read-ok : {T : Type 0} (r : Result T Refusal) (P : List ℕ → T → Type 0) (Q : T → Type 0) (old mid : Moment)
    (Honest : Type 0) → (Honest → mid ≡ old) → (Honest → (x : T) → P old.bytes x → Q x)
    → IfOk r (λ x. Honest → P mid.bytes x) → IfOk r (λ x. Honest → Q x)
read-ok (Ok x) P Q old mid Honest same so means = λ h. so h x (subst (λ (m : Moment). P m.bytes x) (same h) (means h))
read-ok (Err e) P Q old mid Honest same so means = means

pub read-err : {T : Type 0} (r : Result T Refusal) (Q : Refusal → Type 0) (old mid : Moment) (Honest : Type 0)
    → (Honest → mid ≡ old) → (Honest → (e : Refusal) → Reads (layout_in old.bytes) old.bytes (Err e) → Q e)
    → IfErr r (λ e. (e ≡ NoMemory) ⊎ (e ≡ Device) ⊎ (Honest → Reads (layout_in mid.bytes) mid.bytes (Err e)))
    → IfErr r (λ e. (e ≡ NoMemory) ⊎ (e ≡ Device) ⊎ (Honest → Q e))
read-err (Ok x) Q old mid Honest same so fault = fault
read-err (Err e) Q old mid Honest same so fault = ⊎_elim
    (λ (none : e ≡ NoMemory). inl none)
    (λ more. ⊎_elim
    (λ (device : e ≡ Device). inr (inl device))
    (λ (reads : Honest → Reads (layout_in mid.bytes) mid.bytes (Err e)). inr
    (inr (λ h. so h e (subst (λ (m : Moment). Reads (layout_in m.bytes) m.bytes (Err e)) (same h) (reads h)))))
    more)
    fault

-- what a run that was refused does to the disk, if it may be refused for more reasons
pub reads-wider : {D S T : Type 0} (disk : Ghosts D) (old new : D) (e : Refusal) (first may : Refusal → Type 0)
    → (first e → may e) → ReadsOrRefuses disk old new {T = S} (Err e) first
    → ReadsOrRefuses disk old new {T = T} (Err e) may
reads-wider disk old new e first may wider one = record {
  honest = one.honest;
  reads = one.reads;
  faults = (wider one.faults.0, one.faults.1, one.faults.2);
}

pub reads-same : (file : List ℕ) (a b : Reached) → a.contents ≡ b.contents → a.count ≡ b.count → a.room ≡ b.room
    → Reads (layout_in file) file (Ok a) → Reads (layout_in file) file (Ok b)
reads-same file a b contents count room reads =
    let same : a ≡ b = (λ i. record { contents = contents i; count = count i; room = room i }) in
    subst (λ (r : Reached). Reads (layout_in file) file (Ok r)) same reads

-- accepted commands keep the numbers of cells and of windows
pub accepted-sizes : (l : Layout) (m new : Contents) (commands : List Command) → accept_in l m commands ≡ Some new
    → (length new.cells ≡ length m.cells) × (length new.windows ≡ length m.windows)
accepted-sizes l m new [] e = let same : m
    ≡ new = some-same e in
    (sym (ap (λ (c : Contents). length c.cells) same), sym (ap (λ (c : Contents). length c.windows) same))
  where
    some-same : {A : Type 0} {a b : A} → Some a ≡ Some b → a ≡ b
    some-same {A} {a} {b} e = ap (λ (o : Option A). unwrap_or o a) e
accepted-sizes l m new (command ∷ commands) e = by_test
    (can_stand l (step m command).contents && is_accepted m command) e
    (λ rest. accepted-sizes l (step m command).contents new commands rest)
  where
    by_test : (b : Bool) → (if b then accept_in l (step m command).contents commands else None) ≡ Some new
        → (accept_in l (step m command).contents commands ≡ Some new
        → (length new.cells ≡ length (step m command).contents.cells)
        × (length new.windows ≡ length (step m command).contents.windows))
        → (length new.cells ≡ length m.cells) × (length new.windows ≡ length m.windows)
    by_test true is rest = ((rest is).0 ∙ step-cell_count m command, (rest is).1 ∙ step-window_count m command)
    by_test false is rest = absurd (cc)
