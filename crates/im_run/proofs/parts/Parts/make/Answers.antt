use Rattle.std.proofs.Common.{List, [], ◌∷◌, ◌++◌, refl, ap, ◌∙◌}
use Rattle.im_serving.specs.Elements.{Asked}
use Rattle.im_run.{proofs.DoingLemmas.part_added, proofs.DoingLemmas.part_refused, specs.Orders.ask_of}
use Rattle.im_run.proofs.parts.Parts.make.Goals as goal

pub returns-then-is_err-clause-made : goal.returns-then-is_err-clause-made
returns-then-is_err-clause-made g c = part_refused g.K.Name.origin.memory (ask_of c.args.order) _ _ _ _
    c.first_refusal-self.ensures c.reserve.ensures.items

pub returns-in-Err-clause-made : goal.returns-in-Err-clause-made
returns-in-Err-clause-made g c = part_refused g.K.Name.origin.memory (ask_of c.args.order) _ _ _ _
    c.first_refusal-self-in-Err.ensures
    c.reserve.ensures.items

pub returns-in-Ok-clause-made : goal.returns-in-Ok-clause-made
returns-in-Ok-clause-made g c = part_added g.K.Name.origin.memory
    (ask_of c.args.order) c.in-Ok.part _ _ _ _ c.in-Ok.ensures
    refl (c.push_reserved.ensures.items ∙ ap (λ (l : List Asked). l ++ c.in-Ok.part ∷ []) c.reserve.ensures.items)
