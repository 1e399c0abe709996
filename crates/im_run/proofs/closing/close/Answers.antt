use Rattle.std.proofs.Common.{Bool, List, sym, subst}
use Rattle.{im_types.specs.Types.Contents, im_text.proofs.PrintingLemmas.on_ok_by, im_text.specs.Said.Written}
use Rattle.im_run.{proofs.RunningLemmas.closed_by, specs.declared.served.Did.Did, specs.Running.Closes}

pub returns-clause-printed : Rattle.im_run.proofs.closing.close.Goals.returns-clause-printed
returns-clause-printed g c =
    let t = c.print_finals-told in
    let f = c.finish-status in
    let m = c.memory.result.now.contents in
    let was = g.W.Write.contents c.args.out.now in
    let is : Written = (g.W.Write.contents f.new.out, c.faulted.result) in
    let before = c.args.lines in
    let status = c.status_of.result in
    let did = c.as_slice.result.now in
    subst (λ (x : Contents). Closes was before is x c.args.ending.did.items status) c.memory.ensures
    (subst (λ (d : List Did). Closes was before is m d status) c.as_slice.ensures.value
    (subst (λ (b : Bool). Closes was before (is.0, b) m did status) (sym c.faulted.ensures)
    (closed_by was (g.W.Write.contents t.new.out) is.0 before t.new.lines f.new.lines m did status t.ensures.some
    (λ zero. on_ok_by t.result _ t.ensures.all
    (c.both.ensures.told (f.ensures.whole (c.status_of.ensures.done zero)).0))
    f.ensures.last (λ zero. (f.ensures.whole (c.status_of.ensures.done zero)).1))))
