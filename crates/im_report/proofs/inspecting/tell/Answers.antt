use Rattle.std.proofs.{Common.◌≡◌, Common.◌∙◌, Common.subst, lemmas.Result.on_ok_weaker}
use Rattle.std.specs.Io.KnownBytes.{Appends}
use Rattle.im_image.specs.Headers.{seen}
use Rattle.im_report.{proofs.InspectingLemmas.looks, specs.Look.looked_text}

pub returns-in-Ok-text_of-clause-told : Rattle.im_report.proofs.inspecting.tell.Goals.returns-in-Ok-text_of-clause-told
returns-in-Ok-text_of-clause-told g c = on_ok_weaker c.put_through.result (λ whole. λ honest.
    let report = c.in-Ok.report in
    let was = g.W.Write.contents c.args.out.now in
    let is = g.W.Write.contents c.put_through.new.out in
    let text : c.as_str.result.now ≡ looked_text c.args.look.now (seen report.header) report.run report.room report.memory.contents = c.as_str.ensures.value ∙ c.in-Ok-text_of.ensures in
    looks c.args.look.now (g.D.Disk.now c.args.disk.now).bytes (seen report.header) report.run report.room report.memory.contents was is (c.in-Ok.ensures.header honest) (c.in-Ok.ensures.means honest) (subst (Appends was is) text whole)) c.put_through.ensures.whole
