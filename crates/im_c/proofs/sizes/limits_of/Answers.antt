use Rattle.std.proofs.Common.{◌≡◌, ℕ, List, ap, ◌∙◌, subst, rules}
use Rattle.im_listed.specs.Listing.{Listing}
use Rattle.im_c.{proofs.Faults.found_header_fault, specs.Telling.IsHeaderFlawOf}

pub returns-clause-fault : Rattle.im_c.proofs.sizes.limits_of.Goals.returns-clause-fault
returns-clause-fault c =
    let copied : c.in-Ok.copy.items ≡ c.args.bytes.now = search rules in
    let same = ap (λ (d : Listing). d.now.bytes) c.new-disk.ensures.over ∙ copied in
    subst (λ (file : List ℕ). IsHeaderFlawOf file c.in-Err.refusal) same
    (found_header_fault c.in-Err.refusal c.new-disk.result.now.bytes c.in-Err.ensures.fault)
