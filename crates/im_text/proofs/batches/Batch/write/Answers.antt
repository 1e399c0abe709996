use Rattle.std.proofs.Common.{◌≡◌, ℕ, true, List, length, take, sym, refl, ap, ◌∙◌, subst}
use Rattle.std.specs.Io.KnownBytes.{Appends}
use Rattle.im_text.proofs.PrintingLemmas.{batches_written, drop_all, on_ok_is, true_false}
use Rattle.im_text.proofs.batches.Batch.write.Goals as goal

pub returns-in-Ok-clause-on : goal.returns-in-Ok-clause-on
returns-in-Ok-clause-on g c = λ start text it.
    let n = c.write_out.result.0 in
    let was = g.W.Write.contents c.args.out.now in
    let is = g.W.Write.contents c.write_out.new.out in
    let whole = on_ok_is c.write_out.result.1 c.in-Ok.field-0 (n ≡ length c.as_slice.result.now) c.write_out.ensures.whole c.in-Ok.is in
    batches_written start was is c.args.self.now _ n text c.requires.works (subst (λ (xs : List ℕ). Appends was is (take n xs)) c.as_slice.ensures.value c.write_out.ensures.bytes)
    (λ still. c.clear.ensures.items ∙ sym (drop_all n c.args.self.now.pending.items (whole ∙ ap length c.as_slice.ensures.value))) it

pub returns-in-Err-clause-on : goal.returns-in-Err-clause-on
returns-in-Err-clause-on g c = λ start text it.
    let n = c.write_out.result.0 in
    let was = g.W.Write.contents c.args.out.now in
    let is = g.W.Write.contents c.write_out.new.out in
    batches_written start was is c.args.self.now _ n text c.requires.works (subst (λ (xs : List ℕ). Appends was is (take n xs)) c.as_slice.ensures.value c.write_out.ensures.bytes)
    (λ still. absurd (true_false true refl still)) it
