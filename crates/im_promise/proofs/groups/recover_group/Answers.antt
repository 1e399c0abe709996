use Rattle.std.proofs.Common.{◌≡◌, false, ◌⊎◌, sym, ap, ◌∙◌, subst}
use Rattle.im_types.specs.Types.{Device, NoMemory}
use Rattle.im_disk.specs.{Fuse.Fused, Moment.Left, Recording.Recording, Since.LeavesNow}
use Rattle.im_engine.specs.{Groups.after_group, State.EngineState, State.MeansEither, State.MeansState}
use Rattle.im_promise.proofs.{Grouping.group_by, Grouping.group_refused, Reopening.under, Reopening.under_err}
use Rattle.im_promise.specs.Groups.{RecoversGroup}
use Rattle.im_promise.proofs.groups.recover_group.Goals as goal

pub returns-clause-recovers : goal.returns-clause-recovers
returns-clause-recovers c =
    let s : EngineState Fused = c.args.engine in
    let n : EngineState Fused = c.serve_group.new.self in
    let members = c.args.members.now.items in
    let answers = c.serve_group.new.served.items in
    let inner : c.into_inner.result ≡ n.disk.disk =
    c.into_inner.ensures ∙ ap (λ (x : Fused). x.disk) c.close.ensures.disk in
    under (s.failed ≡ false) (λ e. RecoversGroup s members answers e) c.open_crashed.result (λ f.
    let doubt : LeavesNow c.into_inner.result.moment (MeansEither s (after_group s members)) =
    subst (λ (d : Recording). LeavesNow d.moment (MeansEither s (after_group s members))) (sym inner)
    (c.serve_group.ensures.doubt tt f) in
    group_by s n members answers
    (Left c.into_inner.result.moment) c.open_crashed.result f c.files_mean_one_thing.ensures.memory
    (record { memory = c.groups_are_runs.ensures.memory; count = c.groups_are_runs.ensures.count })
    c.serve_group.ensures.answered doubt
    (λ works. subst (λ (d : Recording). LeavesNow d.moment (MeansState n)) (sym inner)
    (c.serve_group.ensures.means tt works))
    c.open_crashed.ensures.left c.open_crashed.ensures.means)

pub returns-clause-refused : goal.returns-clause-refused
returns-clause-refused c =
    let s : EngineState Fused = c.args.engine in
    let members = c.args.members.now.items in
    let inner : c.into_inner.result ≡ c.serve_group.new.self.disk.disk =
    c.into_inner.ensures ∙ ap (λ (x : Fused). x.disk) c.close.ensures.disk in
    under_err (s.failed ≡ false) (λ e. (e ≡ NoMemory) ⊎ (e ≡ Device)) c.open_crashed.result (λ f.
    let doubt : LeavesNow c.into_inner.result.moment (MeansEither s (after_group s members)) =
    subst (λ (d : Recording). LeavesNow d.moment (MeansEither s (after_group s members))) (sym inner)
    (c.serve_group.ensures.doubt tt f) in
    group_refused s members
    (Left c.into_inner.result.moment) c.open_crashed.result c.files_mean_one_thing.ensures.fault doubt
    c.open_crashed.ensures.refused)
