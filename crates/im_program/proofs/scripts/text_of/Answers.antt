use Rattle.std.proofs.Common.{sym, ◌∙◌}
use Rattle.im_program.proofs.SourceLemmas.{from_file, from_input}
use Rattle.im_program.proofs.scripts.text_of.Goals as goal

pub returns-then-is_input : goal.returns-then-is_input
returns-then-is_input g c = from_input (λ text. text.items) c.read_text.result _ _
    (sym c.is_input.ensures ∙ c.if-is_input.true) c.read_text.ensures.found

pub returns-in-Ok : goal.returns-in-Ok
returns-in-Ok g c = from_file (λ text. text.items) c.read_text-in-Ok.result _ _
    (sym c.is_input.ensures ∙ c.if-is_input.false)
