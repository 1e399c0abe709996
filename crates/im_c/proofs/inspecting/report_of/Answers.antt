use Rattle.std.proofs.Common.{◌≡◌, ℕ, List, ap, ◌∙◌, subst, rules}
use Rattle.{im_disk.specs.Moment.Moment, im_listed.specs.Listing.Listing}
use Rattle.im_c.specs.Telling.{IsFlawOf}

pub returns-clause-fault : Rattle.im_c.proofs.inspecting.report_of.Goals.returns-clause-fault
returns-clause-fault c =
    let copied : c.in-Ok.copy.items ≡ c.args.bytes.now = search rules in
    let same = ap (λ (m : Moment). m.bytes) (c.inspect_on-status.ensures.reads tt).now
    ∙ ap (λ (d : Listing). d.now.bytes) c.new.ensures.over ∙ copied in
    subst (λ (file : List ℕ). IsFlawOf file c.fault_of.result) same c.fault_of.ensures
