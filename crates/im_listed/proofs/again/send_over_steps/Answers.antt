use Rattle.std.proofs.Common.{◌≡◌, ℕ, ◌⊎◌, List, [], refl, subst, inl, inr, ⊎_elim}
use Rattle.{im_types.specs.Types.Asks, im_types.specs.Types.step, im_promise.proofs.Recovering.still_means}
use Rattle.im_disk.{proofs.SinceLemmas.left_now, specs.Moment.Left}
use Rattle.im_engine.specs.State.{EngineState, MeansEither, MeansState, with_command}
use Rattle.im_promise.proofs.Sent.{by_is_false, is_false_by, no_fault_of_one, sent_once}
use Rattle.im_listed.specs.{Image.begun_in, Listing.Listing}
use Rattle.im_listed.proofs.again.send_over_steps.Goals as goal

pub returns-in-Ok-clause-once : goal.returns-in-Ok-clause-once
returns-in-Ok-clause-once c = λ crash entry told.
    let alive = crash.0 in
    let left = crash.1 in
    let r = c.args.request in
    let old : EngineState Listing = begun_in c.args.image in
    let e : EngineState Listing = begun_in c.in-Ok.opened in
    let file = c.args.file.items in
    let either : MeansEither old (with_command old (Asks r)) file = (c.serve-first.ensures.carried alive).way left.0 file left.1 left.2 in
    let means : MeansState e file = c.in-Ok.ensures.means file (subst (λ (b : List ℕ). Left c.in-Ok.opened.engine.disk.now b)
    c.in-Ok.ensures.kept (left_now c.in-Ok.opened.engine.disk.now)) in
    let there : (e.memory ≡ old.memory) ⊎ (e.memory ≡ (step old.memory (Asks r)).contents) = ⊎_elim
    (λ before. inl (still_means old e file c.files_mean_one_thing.ensures.memory before means).0)
    (λ later. inr (still_means (with_command old (Asks r)) e file c.files_mean_one_thing.ensures.memory later means).0)
    either in
    let works = c.in-Ok.ensures.works in
    sent_once old e c.serve-answer.new.self.engine r entry c.serve-answer.result (c.serve-answer.ensures.works works)
    (c.serve-answer.ensures.answered works) told
    (λ m no. (c.accepted_where_changed.ensures.unaccepted m (Asks r)).0 (is_false_by _ no))
    (λ yes. by_is_false _ (c.number_acts_once.ensures old.memory r r [] yes refl))
    there

pub returns-in-Err-clause-refused : goal.returns-in-Err-clause-refused
returns-in-Err-clause-refused c = λ crash.
    let alive = crash.0 in
    let left = crash.1 in
    let r = c.args.request in
    let old : EngineState Listing = begun_in c.args.image in
    let file = c.args.file.items in
    let either : MeansEither old (with_command old (Asks r)) file = (c.serve-first.ensures.carried alive).way left.0 file left.1 left.2 in
    ⊎_elim (λ want. inl want) (λ more. ⊎_elim (λ device. inr device)
    (λ fault. absurd (no_fault_of_one old r c.in-Err.refusal file c.files_mean_one_thing.ensures.fault either fault))
    more) c.in-Err.ensures.fault
