use Rattle.std.proofs.Common.{ℕ, List, [], ◌∷◌, ◌++◌, refl, ap, ◌∙◌, subst, inr}
use Rattle.im_text.proofs.SaidLemmas.{nothing_said, said_last}
use Rattle.im_text.specs.{declared.said.OutputLine.TheVariants.Refused, Printing.Begins, Said.output, Said.said_in}
use Rattle.im_text.proofs.ending.put_refusal.Goals as goal

pub returns : goal.returns
returns g c =
    let said = said_in c.args.style (Refused c.args.refusal) in (
      Refused c.args.refusal ∷ [],
      (
        inr (c.args.refusal, refl),
        subst (Begins _ _)
            (said_last c.args.style c.args.refusal c.as_str.result.now (c.as_str.ensures.value ∙ c.in-Ok.ensures
            ∙ ap (λ (l : List ℕ). l ++ said) c.new-line.ensures.bytes))
            c.put_through-written.ensures.begins,
      ),
    )

pub returns-in_default : goal.returns-in_default
returns-in_default g c = nothing_said (output c.args.style (g.W.Write.contents c.args.out.now))
