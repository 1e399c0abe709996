use Rattle.std.proofs.Common.{slice_get, string_bytes, sym, ◌∙◌, arith}
use Rattle.std.proofs.lemmas.Result.{on_ok_weaker}
use Rattle.im_text.proofs.WindowLemmas.{bounds_found}
use Rattle.im_report.proofs.ReportLemmas.{element_told}

pub returns : Rattle.im_report.proofs.report.add_element.Goals.returns
returns c =
    let found = bounds_found (slice_get c.args.memory.now.contents.windows c.args.element) c.in-Ok.base c.in-Ok.next (sym c.window.ensures ∙ c.in-Ok.is) in
    on_ok_weaker c.add_entries.result
    (λ entries. element_told c.args.notation c.args.element (slice_get c.args.memory.now.contents.windows c.args.element) found.window c.in-Ok.base c.saturating_sub-kept.result
    (string_bytes c.args.out.now) (string_bytes c.tell_element.new.out) (string_bytes c.add_entries.new.out)
    found.found_is found.base_is (omega arith) (sym c.is_new.ensures ∙ c.if-is_new.false) c.in_ok-tell_element.ensures entries)
    (c.add_entries.ensures found.window found.found_is (found.base_is, found.next_is))
