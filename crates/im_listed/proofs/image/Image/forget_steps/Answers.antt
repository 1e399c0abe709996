use Rattle.std.proofs.Common.{refl, ap, ◌∙◌, inl}
use Rattle.im_engine.specs.State.{EngineState}
use Rattle.im_listed.{proofs.OrderLemmas.kept_first, specs.Listing.Listing}

pub invariant_of-self : Rattle.im_listed.proofs.image.Image.forget_steps.Goals.invariant_of-self
invariant_of-self c =
    let emptied = c.empty_list.ensures.emptied in
    let new = c.empty_list.new.self in
    record {
      works = λ is. ap (λ (t : EngineState Listing). t.failed) emptied ∙ c.self.invariant.works is;
      first = kept_first c.self.inside.engine new new c.self.inside.asks emptied (inl refl) c.self.invariant.first;
    }
