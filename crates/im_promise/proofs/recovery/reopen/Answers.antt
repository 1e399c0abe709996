use Rattle.std.proofs.Common.{◌≡◌, false, ◌⊎◌, sym, subst}
use Rattle.im_types.specs.Types.{Device, NoMemory}
use Rattle.im_disk.specs.{Moment.Left, Recording.Recording, Since.LeavesNow}
use Rattle.im_engine.specs.State.{EngineState, MeansState}
use Rattle.im_promise.proofs.Reopening.{refused_by, same_by, under, under_err}
use Rattle.im_promise.proofs.recovery.reopen.Goals as goal

pub returns-clause-same : goal.returns-clause-same
returns-clause-same c =
    let s : EngineState Recording = c.args.engine in
    under (s.failed ≡ false) (λ e. (e.memory ≡ s.memory) × (e.count ≡ s.count)) c.open_crashed.result (λ f.
    let said : LeavesNow c.close.result.moment (MeansState s) = c.close.ensures.means tt f in
    let there : LeavesNow c.into_inner.result.moment (MeansState s) =
    subst (λ (x : Recording). LeavesNow x.moment (MeansState s)) (sym c.into_inner.ensures)
    (λ file left. said file (c.open_and_close-disk.ensures file left)) in
    same_by s (Left c.into_inner.result.moment) c.open_crashed.result c.files_mean_one_thing.ensures.memory there
    c.open_crashed.ensures.left c.open_crashed.ensures.means)

pub returns-clause-refused : goal.returns-clause-refused
returns-clause-refused c =
    let s : EngineState Recording = c.args.engine in
    under_err (s.failed ≡ false) (λ e. (e ≡ NoMemory) ⊎ (e ≡ Device)) c.open_crashed.result (λ f.
    let said : LeavesNow c.close.result.moment (MeansState s) = c.close.ensures.means tt f in
    let there : LeavesNow c.into_inner.result.moment (MeansState s) =
    subst (λ (x : Recording). LeavesNow x.moment (MeansState s)) (sym c.into_inner.ensures)
    (λ file left. said file (c.open_and_close-disk.ensures file left)) in
    refused_by s (Left c.into_inner.result.moment) c.open_crashed.result c.files_mean_one_thing.ensures.fault there
    c.open_crashed.ensures.refused)
