use Rattle.std.proofs.Common.{◌≡◌, ◌+◌, map, get_or, drop, sym, ap, ◌∙◌, subst, arith}
use Rattle.im_types.specs.Types.{I, Alloc, Asks, Unserved}
use Rattle.im_session.specs.Serving.{served_answer}
use Rattle.im_trace.{proofs.TimeLemmas.goes-on-at, specs.Log.LogState, specs.Log.with_unclaimed}
use Rattle.im_controller.proofs.Keeping.{Keeps, keeps_cons, keeps_next}

pub loop-i-preserved : Rattle.im_controller.proofs.members.keep_all.Goals.loop-i-preserved
loop-i-preserved g c =
    let m = g.K.Name.origin.memory in
    let l0 = c.args.log.now.state in let rs = c.args.members.now in let ss = c.args.served.now in let xs = map served_answer ss in
    let i = c.loop-i.i in let first = Asks (record { element = 0; number = 0; op = Alloc I 0 }) in
    let k = keeps_cons m l0 rs xs served_answer c.loop-i.log.state rs ss i first Unserved (omega arith)
    (omega (arith, c.requires.whole)) c.loop-i.invariant.0 in
    let next = keeps_next m l0 rs xs c.loop-i.log.state (get_or rs i first) (served_answer (get_or ss i Unserved))
    (drop (i + 1) rs) (map served_answer (drop (i + 1) ss)) k in
    let same : c.keep.new.self.state
    ≡ with_unclaimed c.loop-i.log.state (get_or rs i first) (served_answer (get_or ss i Unserved)) = c.keep.ensures.log
    ∙ ap (λ x. with_unclaimed c.loop-i.log.state (get_or rs i first) x) c.served_answer.ensures in (
      subst (λ (l : LogState). Keeps m l0 rs xs l (drop (i + 1) rs) (map served_answer (drop (i + 1) ss)))
          (sym same) next,
      goes-on-at _ c.args.log.now c.loop-i.log c.keep.new.self c.loop-i.invariant.1 c.keep.ensures.times,
    )
