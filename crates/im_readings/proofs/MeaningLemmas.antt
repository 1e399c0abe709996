-- What a file means is a memory: its pages show one, and each command of its journal keeps it one.
use Rattle.std.proofs.Common.{◌≡◌, ℕ, ◌+◌, Bool, true, false, ◌&&◌, ◌⊎◌, List, [], ◌∷◌, length, if◌then◌else◌, Some}
use Rattle.std.proofs.Common.{None, Ok, Err, Option, Result, MatchOption, sym, ap, subst, ⊎_elim}
use Rattle.im_types.specs.Types.{Command, Refusal, BadPage, Contents, IsMemory, step, is_accepted, Layout}
use Rattle.im_types.specs.Types.{layout_in_use, ring_of, header_of, header_fault, Tail, tail, Reached, can_stand}
use Rattle.im_types.specs.Types.{accept_in, reached_by, reached_after, read_journal, IsShown, Means}

abbrev StepsKeep : Type 0
StepsKeep =
    (cells elements : ℕ) (m : Contents) (command : Command) → IsMemory cells elements m
    → IsMemory cells elements (step m command).contents

passed : (b : Bool) (o : Option Contents) (n : Contents) → (if b then o else None) ≡ Some n → o ≡ Some n
passed true o n e = e
passed false o n e = absurd (cc)

-- commands that are accepted in their turn keep a memory one
accepted_memory : StepsKeep → (l : Layout) (cells elements : ℕ) (m n : Contents) (commands : List Command)
    → IsMemory cells elements m → accept_in l m commands ≡ Some n → IsMemory cells elements n
accepted_memory keeps l cells elements m n [] memory e =
    let same : m ≡ n = cc in subst (λ (x : Contents). IsMemory cells elements x) same memory
accepted_memory keeps l cells elements m n (command ∷ commands) memory e =
    accepted_memory keeps l cells elements (step m command).contents n commands (keeps cells elements m command memory)
    (passed (can_stand l (step m command).contents && is_accepted m command)
    (accept_in l (step m command).contents commands) n e)

-- the commands that lead to what is reached
by_accepted : (count room : ℕ) (o : Option Contents) (s : Reached) → reached_by count room o ≡ Ok s
    → o ≡ Some s.contents
by_accepted count room None s e = absurd (cc)
by_accepted count room (Some m) s e =
    let same : ◌≡◌ {A = Reached} (record { contents = m; count = count; room = room }) s = cc in
    ap (λ (x : Reached). Some x.contents) same

reached_memory : StepsKeep → (l : Layout) (cells elements count : ℕ) (m : Contents) (end : Option Tail) (s : Reached)
    → IsMemory cells elements m → reached_after l count m end ≡ Ok s → IsMemory cells elements s.contents
reached_memory keeps l cells elements count m None s memory e = absurd (cc)
reached_memory keeps l cells elements count m (Some t) s memory e =
    accepted_memory keeps l cells elements m s.contents t.commands memory
    (by_accepted (count + length t.commands) t.room (accept_in l m t.commands) s e)

abbrev MemoryIn : List ℕ → Contents → Type 0
MemoryIn file m = let h = header_of file in IsMemory h.sizes.cells h.sizes.elements m

read_memory : StepsKeep → (l : Layout) (file : List ℕ) (s : Reached) (fault : Option Refusal)
    → MatchOption fault
    (((m : Contents) × IsShown l file m × (Ok s ≡ read_journal l file m))
    ⊎ (((m : Contents) → IsShown l file m → ⊥) × (◌≡◌ {A = Result Reached Refusal} (Ok s) (Err BadPage))))
    (λ f. ◌≡◌ {A = Result Reached Refusal} (Ok s) (Err f)) → MemoryIn file s.contents
read_memory keeps l file s None reads = ⊎_elim
    (λ shown. let h = header_of file in
    reached_memory keeps l h.sizes.cells h.sizes.elements h.count shown.0 (tail (ring_of l h.sizes) h.count file) s
    shown.1.shown.memory (sym shown.2))
    (λ (bad : ((m : Contents) → IsShown l file m → ⊥) × (◌≡◌ {A = Result Reached Refusal} (Ok s) (Err BadPage))).
    let no = bad.1 in absurd (cc))
    reads
read_memory keeps l file s (Some f) reads = absurd (cc)

pub means_memory : StepsKeep → (m : Contents) (count room : ℕ) (file : List ℕ) → Means m count room file
    → let h = header_of file in IsMemory h.sizes.cells h.sizes.elements m
means_memory keeps m count room file means =
    read_memory keeps layout_in_use file (record { contents = m; count = count; room = means.0 })
    (header_fault layout_in_use file) means.2
