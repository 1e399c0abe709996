use Rattle.std.proofs.Common.{◌≡◌, ◌⊎◌, [], sym, refl, ap, ◌∙◌, subst, inl, inr, ⊎_elim}
use Rattle.im_types.specs.Types.{Asks, step}
use Rattle.im_disk.specs.{Fuse.Fused, Recording.Recording, Since.LeavesNow}
use Rattle.im_engine.specs.State.{EngineState, MeansEither, with_command}
use Rattle.im_promise.proofs.Recovering.{still_means}
use Rattle.im_promise.proofs.Sent.{answer_of, by_is_false, is_false_by, no_fault_of_one, sent_once}
use Rattle.im_promise.proofs.again.send_over_a_crash.Goals as goal

pub returns-in-Ok-clause-once : goal.returns-in-Ok-clause-once
returns-in-Ok-clause-once c = λ f entry told.
    let old : EngineState Fused = c.args.engine in
    let n : EngineState Fused = c.serve-first.new.self in
    let r = c.args.request in
    let e : EngineState Recording = c.in-Ok.engine in
    let inner : c.into_inner.result ≡ n.disk.disk =
    c.into_inner.ensures ∙ ap (λ (x : Fused). x.disk) c.close.ensures.disk in
    let doubt : LeavesNow c.into_inner.result.moment (MeansEither old (with_command old (Asks r))) =
    subst (λ (d : Recording). LeavesNow d.moment (MeansEither old (with_command old (Asks r)))) (sym inner)
    (c.serve-first.ensures.doubt tt f) in
    let file = e.disk.moment.bytes in
    let there : (e.memory ≡ old.memory) ⊎ (e.memory ≡ (step old.memory (Asks r)).contents) = ⊎_elim
    (λ before. inl (still_means old e file c.files_mean_one_thing.ensures.memory before c.in-Ok.ensures.means).0)
    (λ later. inr (still_means
    (with_command old (Asks r)) e file c.files_mean_one_thing.ensures.memory later c.in-Ok.ensures.means).0)
    (doubt file c.in-Ok.ensures.left) in
    sent_once old e c.serve-answer.new.self r entry c.serve-answer.result c.in-Ok.ensures.works
    c.serve-answer.ensures.answered told
    (λ m no. (c.accepted_where_changed.ensures.unaccepted m (Asks r)).0 (is_false_by _ no))
    (λ yes. by_is_false _ (c.number_acts_once.ensures old.memory r r [] yes refl))
    there

pub returns-in-Err-clause-refused : goal.returns-in-Err-clause-refused
returns-in-Err-clause-refused c = λ f.
    let old : EngineState Fused = c.args.engine in
    let n : EngineState Fused = c.serve-first.new.self in
    let r = c.args.request in
    let inner : c.into_inner.result ≡ n.disk.disk =
    c.into_inner.ensures ∙ ap (λ (x : Fused). x.disk) c.close.ensures.disk in
    let doubt : LeavesNow c.into_inner.result.moment (MeansEither old (with_command old (Asks r))) =
    subst (λ (d : Recording). LeavesNow d.moment (MeansEither old (with_command old (Asks r)))) (sym inner)
    (c.serve-first.ensures.doubt tt f) in
    ⊎_elim (λ want. inl want) (λ more. ⊎_elim (λ device. inr device)
    (λ fault. absurd (no_fault_of_one old r c.in-Err.refusal fault.0 c.files_mean_one_thing.ensures.fault
    (doubt fault.0 fault.1) fault.2)) more) c.in-Err.ensures.refused

pub returns-in-Ok-clause-first : goal.returns-in-Ok-clause-first
returns-in-Ok-clause-first c =
    let new = c.serve-first.new.self in
    answer_of c.args.engine new c.args.request c.serve-first.result c.serve-first.ensures.answered

pub returns-in-Err-clause-first : goal.returns-in-Err-clause-first
returns-in-Err-clause-first c =
    let new = c.serve-first.new.self in
    answer_of c.args.engine new c.args.request c.serve-first.result c.serve-first.ensures.answered
