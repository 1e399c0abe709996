use Rattle.std.proofs.Common.{◌≡◌, sym, ap, ◌∙◌, subst}
use Rattle.im_disk.specs.{Fuse.Fused, Moment.Left, Recording.Recording, Since.LeavesNow}
use Rattle.im_promise.proofs.SessionLemmas.{MeansEnd, session_found, session_refused}
use Rattle.im_promise.proofs.recovery.recover_session.Goals as goal

pub returns-clause-recovers : goal.returns-clause-recovers
returns-clause-recovers c =
    let inner : c.into_inner.result ≡ c.args.session.engine.disk.disk
    = c.into_inner.ensures ∙ ap (λ (x : Fused). x.disk) c.close.ensures.state in
    let said : LeavesNow c.into_inner.result.moment (MeansEnd c.args.session)
    = subst (λ (d : Recording). LeavesNow d.moment (MeansEnd c.args.session)) (sym inner)
    (c.close.ensures.kept.leaves tt).now in
    session_found c.args.session (Left c.into_inner.result.moment) said c.open_crashed.result
    c.files_mean_one_thing.ensures.memory c.open_crashed.ensures.left c.open_crashed.ensures.means

pub returns-clause-refused : goal.returns-clause-refused
returns-clause-refused c =
    let inner : c.into_inner.result ≡ c.args.session.engine.disk.disk
    = c.into_inner.ensures ∙ ap (λ (x : Fused). x.disk) c.close.ensures.state in
    let said : LeavesNow c.into_inner.result.moment (MeansEnd c.args.session)
    = subst (λ (d : Recording). LeavesNow d.moment (MeansEnd c.args.session)) (sym inner)
    (c.close.ensures.kept.leaves tt).now in
    session_refused c.args.session (Left c.into_inner.result.moment) said c.open_crashed.result
    c.files_mean_one_thing.ensures.fault c.open_crashed.ensures.refused
