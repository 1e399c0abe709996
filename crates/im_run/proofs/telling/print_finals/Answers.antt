use Rattle.std.proofs.Common.{ℕ, List, ◌++◌, slice_get, refl, ap, subst}
use Rattle.im_text.proofs.TextLemmas.{written_more, written_none}
use Rattle.im_text.specs.{declared.OutputLine.OutputLine, Said.Prints}
use Rattle.im_run.specs.Running.{final_line, finals}
use Rattle.im_run.proofs.telling.print_finals.Goals as goal

pub loop-at-init : goal.loop-at-init
loop-at-init g c = λ start text it. subst (Prints start _ _) (written_none (λ i. final_line c.args.memory.now.contents (slice_get c.args.did.now i)) text) it

pub loop-at-preserved : goal.loop-at-preserved
loop-at-preserved g c = λ start text it.
    let m = c.args.memory.now.contents in
    let f : ℕ → List OutputLine = λ i. final_line m (slice_get c.args.did.now i) in
    let before = text ++ finals m c.args.did.now c.loop-at.at in
    subst (Prints start _ _) (written_more f c.loop-at.at text before (before ++ final_line m c.did_at.result) refl (ap (λ w. before ++ final_line m w) c.did_at.ensures))
    (c.in-Ok.ensures.more start before (c.loop-at.invariant start text it))
