use Rattle.std.proofs.Common.{ℕ, length, sym, subst}
use Rattle.im_types.specs.Types.{IsMemory, header_of}
use Rattle.im_readings.proofs.MeaningLemmas.{means_memory}
use Rattle.im_readings.proofs.files_mean_memories.Goals as goal

pub returns-clause-memory : goal.returns-clause-memory
returns-clause-memory c = λ m count room file means.
    let it = means_memory c.memory_stays_one.ensures.step m count room file means in
    subst (λ (n : ℕ). IsMemory (length m.cells) n m) (sym it.window_count)
    (subst (λ (n : ℕ). IsMemory n (header_of file).sizes.elements m) (sym it.cell_count) it)

pub returns-clause-agrees : goal.returns-clause-agrees
returns-clause-agrees c = λ m count room file means.
    (means_memory c.memory_stays_one.ensures.step m count room file means).agrees
