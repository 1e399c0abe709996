use Rattle.std.proofs.Common.{ℕ, true, List, [], ◌∷◌, ◌++◌, Ok, refl, ap, ◌∙◌}
use Rattle.im_types.specs.Types.{Entry, Answered, Tells}
use Rattle.im_script.specs.declared.Action.TheVariants.{Alloc}
use Rattle.im_serial.proofs.ScriptedLemmas.{asked_ends, asked_serves, served_with}
use Rattle.im_serial.specs.Asked.{base_told}
use Rattle.im_serial.proofs.server.Server.make_block.Goals as goal

pub returns-in-Err-clause-served : goal.returns-in-Err-clause-served
returns-in-Err-clause-served g c = asked_ends _ (record {
  element = 0;
  action = Alloc c.args.block.kind c.args.block.length;
  named = true;
}) _ _ _ _ _ _ refl c.in-Err.ensures.serves

pub returns-in_default-clause-served : goal.returns-in_default-clause-served
returns-in_default-clause-served g c = asked_ends _ (record {
  element = 0;
  action = Alloc c.args.block.kind c.args.block.length;
  named = true;
}) _ _ _ _ _ _ refl c.in-Ok.ensures.serves

pub returns-in-Err-push-clause-served : goal.returns-in-Err-push-clause-served
returns-in-Err-push-clause-served g c = asked_ends _ (record {
  element = 0;
  action = Alloc c.args.block.kind c.args.block.length;
  named = true;
}) _ _ _ _ _ _ refl c.in-Ok.ensures.serves

pub returns-in-Ok-push-clause-served : goal.returns-in-Ok-push-clause-served
returns-in-Ok-push-clause-served g c =
    let told = rw c.in-Answered-Base.is at c.in-Answered-Base.field-0-is in
    let bases = c.args.self.now.bases.items in
    let base = c.in-Answered-Base.base in
    served_with _ _ bases (bases ++ base ∷ []) _ _ _ (c.in-Ok-push.ensures.items
    ∙ ap (λ (l : List ℕ). l ++ base ∷ []) c.request.ensures.bases)
    (asked_serves _ (record {
      element = 0;
      action = Alloc c.args.block.kind c.args.block.length;
      named = true;
    }) bases (base ∷ []) _ c.in-Ok.entry _ _ refl (ap (λ
    (e : Entry). base_told (Ok (Tells e))) (c.in-Answered-Base.is ∙ ap Answered told)) c.in-Ok.ensures.serves)

pub returns-in-Ok-push-clause-named : goal.returns-in-Ok-push-clause-named
returns-in-Ok-push-clause-named g c = (
  c.in-Answered-Base.base,
  c.in-Ok-push.ensures.items ∙ ap (λ (l : List ℕ). l ++ c.in-Answered-Base.base ∷ []) c.request.ensures.bases,
)
