-- What an opening after a crash finds, where it is known what every file means that could be left.
use Rattle.std.proofs.Common.{◌≡◌, ℕ, List, length, sym, ◌∙◌, subst, inl, ⊎_elim, arith}
use Rattle.im_types.specs.Types.{Refusal, Contents, Means}
use Rattle.im_disk.proofs.SinceLemmas.{only_now}
use Rattle.im_disk.specs.{Moment.Left, Moment.Moment, Moment.Outside, Since.Leaves}
use Rattle.im_engine.specs.State.{EngineState, IsFirstFault, MeansState}

-- ---- files

-- what an opening leaves could be left before it
pub was_left : (old new : Moment) (past_old past_new : List Moment) → Leaves old new past_old past_new (Left old)
    → (c : List ℕ) → Left new c → Left old c
was_left old new past_old past_new leaves c left =
    ⊎_elim (λ before. only_now old past_old c before) (λ here. here)
    (leaves.each (length past_old) c (omega arith) (inl (leaves.later, left)))

-- a crash after a crash leaves no more
pub left_again : (m mid : Moment) → mid.ranges ≡ m.ranges → Left m mid.bytes → (f : List ℕ) → Left mid f → Left m f
left_again m mid same left f again = record {
  size = again.size ∙ left.size;
  same = λ i out. again.same i (subst (λ (r : List (ℕ × ℕ)). Outside r i) (sym same) out) ∙ left.same i out;
}

-- ---- a crash, and an opening

abbrev pub MeansOne : Type 0
MeansOne =
    (file : List ℕ) (m n : Contents) (count other room more : ℕ) → Means m count room file → Means n other more file
    → (m ≡ n) × (count ≡ other)

abbrev pub NoFault : Type 0
NoFault =
    (file : List ℕ) (fault : Refusal) (m : Contents) (count room : ℕ) → IsFirstFault fault file
    → Means m count room file → ⊥

-- with nothing served the meaning stays
pub still_means : {D E : Type 0} (s : EngineState D) (e : EngineState E) (file : List ℕ) → MeansOne → MeansState s file
    → MeansState e file → (e.memory ≡ s.memory) × (e.count ≡ s.count)
still_means s e file one said means = one file e.memory s.memory e.count s.count e.room s.room means said
