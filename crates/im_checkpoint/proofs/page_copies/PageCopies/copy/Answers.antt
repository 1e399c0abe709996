use Rattle.std.proofs.Common.{◌≡◌, ◌<◌, length, sym, ap, ◌∙◌, arith}
use Rattle.std.proofs.lemmas.List.{get_or_default, length-map}
use Rattle.im_checkpoint.proofs.Copied.{copy-is}
use Rattle.im_checkpoint.specs.Copied.{blank_page, copy_at, copy_place}
use Rattle.im_checkpoint.specs.declared.page_copies.CopyPlace.TheVariants.{At, Nowhere}
use Rattle.im_checkpoint.proofs.page_copies.PageCopies.copy.Goals as goal

pub index-requires-in-At : goal.index-requires-in-At
index-requires-in-At c =
    let i = c.self.inside in
    let low : c.args.i < length i.places.items = omega
    (arith, c.requires, ap length c.self.view_is, length-map i.places.items (copy_at i.pages.items)) in
    let here : copy_place i.places.items c.args.i
    ≡ At c.in-At.place = get_or_default i.places.items c.args.i Nowhere c.index.result.now low
    ∙ sym c.index.ensures ∙ c.in-At.is in
    omega (arith, c.self.invariant.within c.args.i c.in-At.place here)

pub returns-in-At : goal.returns-in-At
returns-in-At c =
    let i = c.self.inside in
    let low : c.args.i < length i.places.items = omega
    (arith, c.requires, ap length c.self.view_is, length-map i.places.items (copy_at i.pages.items)) in
    let here : copy_place i.places.items c.args.i
    ≡ At c.in-At.place = get_or_default i.places.items c.args.i Nowhere c.index.result.now low
    ∙ sym c.index.ensures ∙ c.in-At.is in
    c.index-in-At.ensures
    ∙ get_or_default i.pages.items c.in-At.place c.index-in-At.result.now blank_page
    (c.self.invariant.within c.args.i c.in-At.place here)
    ∙ copy-is i.places.items i.pages.items c.args.self.now c.args.i (At c.in-At.place) c.self.view_is low here

pub returns-in-Nowhere : goal.returns-in-Nowhere
returns-in-Nowhere c =
    let i = c.self.inside in
    let low : c.args.i < length i.places.items = omega
    (arith, c.requires, ap length c.self.view_is, length-map i.places.items (copy_at i.pages.items)) in
    let here : copy_place i.places.items c.args.i
    ≡ Nowhere = get_or_default i.places.items c.args.i Nowhere c.index.result.now low ∙ sym c.index.ensures
    ∙ c.in-Nowhere.is in
    c.blank_page.ensures ∙ copy-is i.places.items i.pages.items c.args.self.now c.args.i Nowhere c.self.view_is low here
