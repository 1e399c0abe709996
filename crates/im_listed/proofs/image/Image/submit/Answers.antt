use Rattle.std.proofs.Common.{List, sym, subst}
use Rattle.im_front.specs.declared.AskedCommand.{AskedCommand}
use Rattle.im_listed.proofs.OrderLemmas.{AreFirst, first_of_more}

pub invariant_of-self : Rattle.im_listed.proofs.image.Image.submit.Goals.invariant_of-self
invariant_of-self c =
    let ahead = c.self.inside.engine.ahead in
    record {
      works = c.self.invariant.works;
      first = subst (λ (l : List AskedCommand). AreFirst ahead l) (sym c.submit.ensures)
          (first_of_more ahead c.self.inside.asks _ c.self.invariant.first);
    }
