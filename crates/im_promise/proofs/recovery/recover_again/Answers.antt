use Rattle.std.proofs.Common.{◌≡◌, false, [], ap, ◌∙◌, subst, inl, inr, ⊎_elim}
use Rattle.{im_disk.proofs.SinceLemmas.left_now, im_engine.specs.State.EngineState, im_engine.specs.State.MeansState}
use Rattle.im_disk.specs.{Fuse.Fused, Moment.Left, Recording.Recording, Since.LeavesNow}
use Rattle.im_promise.{proofs.Recovering.still_means, proofs.Recovering.was_left, specs.Recovery.Recovers}
use Rattle.im_promise.proofs.Reopening.{again_by, over, under}
use Rattle.im_promise.proofs.recovery.recover_again.Goals as goal

pub returns-in-Ok-clause-recovers : goal.returns-in-Ok-clause-recovers
returns-in-Ok-clause-recovers c =
    let s : EngineState Recording = c.args.engine in
    let e : EngineState Fused = c.in-Ok.opened in
    let works : e.failed ≡ false = c.in-Ok.ensures.works in
    under (s.failed ≡ false)
    (λ x. Recovers s.memory s.count [] c.args.events.now x.answers.items x.engine.memory x.engine.count)
    c.recover.result
    (λ f.
    let fresh : c.new-fused.result.disk ≡ s.disk = ap (λ (x : Fused). x.disk) c.new-fused.ensures.fresh ∙
    c.close.ensures.disk in
    let said : LeavesNow s.disk.moment (MeansState s) =
    subst (λ (d : Recording). LeavesNow d.moment (MeansState s)) c.close.ensures.disk (c.close.ensures.means tt f) in
    let here : Left s.disk.moment e.disk.disk.moment.bytes =
    subst (λ (d : Recording). Left d.moment e.disk.disk.moment.bytes) fresh
    (was_left c.new-fused.result.disk.moment e.disk.disk.moment c.new-fused.result.disk.past e.disk.disk.past
    (c.in-Ok.ensures.leaves tt) e.disk.disk.moment.bytes (left_now e.disk.disk.moment)) in
    let same =
    still_means s e e.disk.disk.moment.bytes c.files_mean_one_thing.ensures.memory
    (said e.disk.disk.moment.bytes here)
    (c.in-Ok.ensures.means tt e.disk.disk.moment.bytes (left_now e.disk.disk.moment)) in
    again_by s.memory e.memory s.count e.count [] e.ahead c.args.events.now c.recover.result same.0 same.1
    c.in-Ok.ensures.idle.2
    (over (e.failed ≡ false)
    (λ x. Recovers e.memory e.count e.ahead c.args.events.now x.answers.items x.engine.memory x.engine.count)
    c.recover.result
    works c.recover.ensures.recovers))

pub returns-clause-refused : goal.returns-clause-refused
returns-clause-refused c = λ f.
    let s : EngineState Recording = c.args.engine in
    let d : Fused = c.in-Err.field-0-1 in
    let fresh : c.new-fused.result.disk ≡ s.disk = ap (λ (x : Fused). x.disk) c.new-fused.ensures.fresh ∙
    c.close.ensures.disk in
    let said : LeavesNow s.disk.moment (MeansState s) =
    subst (λ (x : Recording). LeavesNow x.moment (MeansState s)) c.close.ensures.disk (c.close.ensures.means tt f) in
    let here : Left s.disk.moment d.disk.moment.bytes =
    subst (λ (x : Recording). Left x.moment d.disk.moment.bytes) fresh
    (was_left c.new-fused.result.disk.moment d.disk.moment c.new-fused.result.disk.past d.disk.past
    (c.in-Err.ensures.leaves tt) d.disk.moment.bytes (left_now d.disk.moment)) in
    ⊎_elim (λ none. inl none) (λ more. ⊎_elim (λ device. inr device) (λ fault. absurd (
    c.files_mean_one_thing.ensures.fault d.disk.moment.bytes c.in-Err.refusal s.memory s.count s.room
    (fault tt d.disk.moment.bytes (left_now d.disk.moment))
    (said d.disk.moment.bytes here))) more) c.in-Err.ensures.fault
