use Rattle.std.proofs.Common.{◌≡◌, sym, ap, ◌∙◌}
use Rattle.im_types.specs.Types.{Same}
use Rattle.im_glass.{proofs.CopyLemmas.idle-more, specs.Copies.applied_to, specs.Copies.CopyState, specs.Copies.History}
use Rattle.im_glass.specs.{declared.copies.Ahead.Ahead, Rule.copy_state}

pub loop-place-preserved : Rattle.im_glass.proofs.sides.make_room.Goals.loop-place-preserved
loop-place-preserved c =
    let s : CopyState = copy_state c.args.both.now.desk.shown.value in
    let ahead : Ahead = record { change = Same; count = 0; seen = c.again.result } in
    let nothing : applied_to s ahead ≡ s = ap (λ (seen : History). (seen, s.1, 0)) c.again.ensures
    ∙ sym c.requires.shown in (
      c.append.ensures.desk
          ∙ c.loop-place.invariant.0,
      rw c.in-Ok.ensures.pending (idle-more _ s ahead c.loop-place.invariant.1 nothing),
    )
