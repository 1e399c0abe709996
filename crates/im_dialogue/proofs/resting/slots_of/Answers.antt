use Rattle.std.proofs.Common.{length, ap, ◌∙◌, arith}
use Rattle.im_types.specs.Types.{Contents}
use Rattle.im_dialogue.proofs.DialogueLemmas.{same_length}

pub returns-in-Some : Rattle.im_dialogue.proofs.resting.slots_of.Goals.returns-in-Some
returns-in-Some g c = λ slots limits is.
    let l = c.in-Some.ensures.limits in
    let memory = c.memory-memory.ensures in
    c.slots_in.ensures slots limits.few_slots (omega (arith, l.2, limits.enough_slots))
    (same_length _ _ slots _ _ c.args.bytes
    (l.0 ∙ c.cells.ensures.count ∙ ap (λ (m : Contents). length m.cells) memory)
    (l.1 ∙ c.elements.ensures.count ∙ ap (λ (m : Contents). length m.windows) memory) is)
