use Rattle.std.proofs.Common.{ℕ, List, ◌++◌, slice_get, refl, ap, subst}
use Rattle.im_text.proofs.TextLemmas.{written_more, written_none}
use Rattle.im_text.specs.{declared.OutputLine.OutputLine, Said.answered_now, Said.nows, Said.Prints}
use Rattle.im_serial.proofs.server.print_nows.Goals as goal

pub loop-at-init : goal.loop-at-init
loop-at-init g c = λ start text it. subst (Prints start _ _) (written_none (λ i. answered_now (slice_get c.args.waited.now i)) text) it

pub loop-at-preserved : goal.loop-at-preserved
loop-at-preserved g c = λ start text it.
    let f : ℕ → List OutputLine = λ i. answered_now (slice_get c.args.waited.now i) in
    let before = text ++ nows c.args.waited.now c.loop-at.at in
    subst (Prints start _ _) (written_more f c.loop-at.at text before (before ++ answered_now c.waited_at.result) refl (ap (λ w. before ++ answered_now w) c.waited_at.ensures))
    (c.in_ok-push_now.ensures.more start before (c.loop-at.invariant start text it))
