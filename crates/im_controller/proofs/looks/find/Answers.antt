use Rattle.std.proofs.Common.{Result, sym, ap, ◌∙◌, subst}
use Rattle.im_types.specs.Types.{Tells, Collect, Refusal}
use Rattle.im_trace.specs.Log.{FoundState}
use Rattle.im_controller.proofs.looks.find.Goals.{in-Err, in-Ok}
use Rattle.im_controller.proofs.{PlannedLemmas.tells-last, ShownLemmas.told-all}
use Rattle.im_controller.specs.{Planned.TellsBy, Planned.TellsFound, State.SharedState, Waits.IsFoundAt}
use Rattle.im_controller.proofs.looks.find.Goals as goal

pub found-requires-clause-told : goal.found-requires-clause-told
found-requires-clause-told g c =
    told-all g.K.Name.origin.memory c.shared.inside.log.state.trace c.told.result
    (c.told.ensures ∙ c.shared.invariant.1)

pub returns-clause-planned : goal.returns-clause-planned
returns-clause-planned g c =
    let m = g.K.Name.origin.memory in let plan = g.K.Name.origin.plan in
    elim c.match-look.branch [
      | in-Ok w ↦ subst (λ (a : Result FoundState Refusal). TellsFound m plan a) (sym w.result-is)
          (subst (λ (f : FoundState). TellsBy m plan (Collect f.element f.number) (Tells f.entry))
          (sym w.found.ensures.found)
          (tells-last m plan
          (Collect c.args.element c.args.number) _ c.shared.inside.log.state.trace c.shared.invariant.8 w.found.ensures.proof))
      | in-Err w ↦ subst (λ (a : Result FoundState Refusal). TellsFound m plan a) (sym w.result-is) tt
    ]

pub returns-clause-own : goal.returns-clause-own
returns-clause-own g c =
    elim c.match-look.branch [
      | in-Ok w ↦ subst (λ (a : Result FoundState Refusal). IsFoundAt c.look.new.shared.log.trace a)
          (sym w.result-is)
          (ap (λ (f : FoundState). f.history) w.found.ensures.found
          ∙ ap (λ (s : SharedState g.row.D.Denot). s.log.trace) c.shared.view_is)
      | in-Err w ↦ subst (λ (a : Result FoundState Refusal). IsFoundAt c.look.new.shared.log.trace a)
          (sym w.result-is) tt
    ]
