use Rattle.std.proofs.Common.{ℕ, List, map, string_bytes, ap, ◌∙◌, Bor}
use Rattle.im_program.proofs.EndingLemmas.{ended_as, ended_by, refused_by}
use Rattle.imem.proofs.start.Goals as goal

pub returns-in_default-clause-ended : goal.returns-in_default-clause-ended
returns-in_default-clause-ended g c = refused_by _ _ _ _ _ _ _ _ (map string_bytes c.args.words.now)
    (c.from.ensures ∙ c.refuse-status.ensures.status)

pub returns-in-Ok-read_words-clause-ended : goal.returns-in-Ok-read_words-clause-ended
returns-in-Ok-read_words-clause-ended g c = ended_as _ _ _ _ _ _ _ _ _ _ _ _ _
    (ap (λ (l : List (Bor (List ℕ))). map (λ w. w.now) l) c.as_slice.ensures.value ∙ c.in-Ok.ensures)
    c.from-in-Ok-read_words.ensures
    (ended_by _ _ _ _ _ _ _ _ (map (λ w. w.now) c.as_slice.result.now) c.in-Ok-read_words.line _ _
    c.in-Ok-read_words.ensures.work c.in-Ok-read_words.ensures.statuses c.work_on-done.ensures.ended)

pub returns-in-Err-NoMemory-clause-ended : goal.returns-in-Err-NoMemory-clause-ended
returns-in-Err-NoMemory-clause-ended g c = refused_by _ _ _ _ _ _ _ _ (map string_bytes c.args.words.now)
    (c.from-in-Err-NoMemory.ensures ∙ c.refuse-status-in-Err-NoMemory.ensures.status)
