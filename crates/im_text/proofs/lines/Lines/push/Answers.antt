use Rattle.std.proofs.Common.{ℕ, Bool, ◌||◌, List, ◌++◌, refl, ap, ◌∙◌}
use Rattle.im_text.{proofs.SaidLemmas.prints_more, specs.Said.said_in}

pub returns-in-Ok-push : Rattle.im_text.proofs.lines.Lines.push.Goals.returns-in-Ok-push
returns-in-Ok-push g c =
    let said = said_in c.args.self.now.style c.args.line in record {
      more = prints_more _ _ _ _ c.args.line c.as_str.result.now refl
          (ap (λ (b : Bool). c.args.self.now.faulted || b) c.is_fault_line.ensures)
          (c.as_str.ensures.value ∙ c.in-Ok.ensures ∙ ap (λ (l : List ℕ). l ++ said) c.clear.ensures.bytes)
          c.in-Ok-push.ensures.more;
    }
