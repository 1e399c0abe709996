use Rattle.std.proofs.Common.{◌≡◌, ℕ, ◌<◌, List, [], ◌∷◌, ◌++◌, map, length, set, vec_capacity, sym, ap, ◌∙◌, subst}
use Rattle.std.proofs.Common.{arith}
use Rattle.std.proofs.lemmas.List.{get_or_default, length-map}
use Rattle.im_checkpoint.proofs.Copied.{behind-kept, behind-view, has-room, over-view}
use Rattle.im_checkpoint.specs.Copied.{AreCopies, copy_at, copy_place}
use Rattle.im_checkpoint.specs.declared.page_copies.CopyPlace.TheVariants.{At, Nowhere}
use Rattle.im_checkpoint.proofs.page_copies.PageCopies.put.Goals as goal

pub index_mut-requires : goal.index_mut-requires
index_mut-requires c =
    let i = c.self.inside in
    let low : c.args.i < length i.places.items = omega
    (arith, c.requires, ap length c.self.view_is, length-map i.places.items (copy_at i.pages.items)) in
    let here : copy_place i.places.items c.args.i
    ≡ At c.in-At.place = get_or_default i.places.items c.args.i Nowhere c.index.result.now low
    ∙ sym c.index.ensures ∙ c.in-At.is in
    omega (arith, c.self.invariant.within c.args.i c.in-At.place here)

pub unreachable-requires : goal.unreachable-requires
unreachable-requires c =
    let i = c.self.inside in
    let low : c.args.i < length i.places.items = omega
    (arith, c.requires, ap length c.self.view_is, length-map i.places.items (copy_at i.pages.items)) in
    let here : copy_place i.places.items c.args.i
    ≡ Nowhere = get_or_default i.places.items c.args.i Nowhere c.index.result.now low ∙ sym c.index.ensures
    ∙ c.in-Nowhere.is in
    let room = has-room i.places.items i.pages.items _ c.args.i c.args.page.now c.self.invariant low here in
    omega (arith, room, c.in_default.ensures.full)

pub invariant_of-self-in-Nowhere : goal.invariant_of-self-in-Nowhere
invariant_of-self-in-Nowhere c =
    let i = c.self.inside in
    let low : c.args.i < length i.places.items = omega
    (arith, c.requires, ap length c.self.view_is, length-map i.places.items (copy_at i.pages.items)) in
    let here : copy_place i.places.items c.args.i
    ≡ Nowhere = get_or_default i.places.items c.args.i Nowhere c.index.result.now low ∙ sym c.index.ensures
    ∙ c.in-Nowhere.is in
    let place : c.len-place.result ≡ length i.pages.items = omega (arith, c.len-place.ensures) in
    subst (λ (n : ℕ). AreCopies (set i.places.items c.args.i (At n)) c.push.new.self.items
    (vec_capacity c.push.new.self)) (sym place)
    (subst (λ (pages : List (List ℕ)). AreCopies (set i.places.items c.args.i (At (length i.pages.items))) pages
    (vec_capacity c.push.new.self)) (sym c.in-Ok.ensures.items)
    (behind-kept i.places.items i.pages.items _ c.args.i c.args.page.now c.self.invariant low here _
    c.in-Ok.ensures.capacity))

pub returns-in-At : goal.returns-in-At
returns-in-At c =
    let i = c.self.inside in
    let low : c.args.i < length i.places.items = omega
    (arith, c.requires, ap length c.self.view_is, length-map i.places.items (copy_at i.pages.items)) in
    let here : copy_place i.places.items c.args.i
    ≡ At c.in-At.place = get_or_default i.places.items c.args.i Nowhere c.index.result.now low
    ∙ sym c.index.ensures ∙ c.in-At.is in
    over-view i.places.items i.pages.items _ c.args.i c.args.page.now c.self.invariant low c.in-At.place here
    ∙ ap (λ (copies : List (List ℕ)). set copies c.args.i c.args.page.now) c.self.view_is

pub returns-in-Ok : goal.returns-in-Ok
returns-in-Ok c =
    let i = c.self.inside in
    let low : c.args.i < length i.places.items = omega
    (arith, c.requires, ap length c.self.view_is, length-map i.places.items (copy_at i.pages.items)) in
    let here : copy_place i.places.items c.args.i
    ≡ Nowhere = get_or_default i.places.items c.args.i Nowhere c.index.result.now low ∙ sym c.index.ensures
    ∙ c.in-Nowhere.is in
    let place : c.len-place.result ≡ length i.pages.items = omega (arith, c.len-place.ensures) in
    ap (λ (pages : List (List ℕ)). map (copy_at pages)
    (set i.places.items c.args.i (At c.len-place.result))) c.in-Ok.ensures.items
    ∙ ap (λ (n : ℕ). map (copy_at (i.pages.items ++ c.args.page.now ∷ [])) (set i.places.items c.args.i (At n))) place
    ∙ behind-view i.places.items i.pages.items _ c.args.i c.args.page.now c.self.invariant low here
    ∙ ap (λ (copies : List (List ℕ)). set copies c.args.i c.args.page.now) c.self.view_is
