use Rattle.std.proofs.Common.{[], ◌∷◌, ◌++◌, length, refl, ap, ◌∙◌, arith}
use Rattle.byteorder.specs.Endian.{little_bytes}
use Rattle.im_types.specs.Types.{layout_of, zeros, place_bytes}
use Rattle.im_records.proofs.SessionLemmas.{all_places, place_more, placed_behind}
use Rattle.im_records.specs.Placed.{placed}
use Rattle.im_records.proofs.session.spell_in.Goals as goal

pub loop-place-preserved : goal.loop-place-preserved
loop-place-preserved c = place_more (layout_of c.args.version).window c.args.window.now
    (little_bytes 8 c.args.window.now.base ++ length c.args.window.now.kept ∷ zeros 23) c.loop-place.bytes c.put-in-loop-place.new.bytes c.spell_place.result c.loop-place.place refl c.loop-place.invariant (c.spell_place.ensures ∙ ap place_bytes c.entry_at.ensures) c.put-in-loop-place.ensures

pub loop-place-init : goal.loop-place-init
loop-place-init c =
    placed_behind [] (little_bytes 8 c.args.window.now.base ++ length c.args.window.now.kept ∷ zeros 23)
    (zeros 4096) c.put.new.bytes 0 4096 refl refl
    (c.put.ensures ∙ ap (λ part. placed 0 part (zeros 4096)) c.spell_head.ensures)

pub returns : goal.returns
returns c = c.loop-place.invariant
    ∙ all_places (layout_of c.args.version) c.args.window.now c.loop-place.place
    (omega (arith, c.window-place-end.ensures.few, c.window-place-end.ensures.window))
    (omega (arith, c.window-place-end.ensures.few, c.window-place-end.ensures.window))
    (omega (arith, c.loop-place-test.false, c.window-place-end.ensures.window))
