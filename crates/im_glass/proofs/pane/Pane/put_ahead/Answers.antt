use Rattle.std.proofs.Common.{◌≡◌, true, [], ◌∷◌, ◌++◌, length, sym, ap, ◌∙◌, arith, length-append}
use Rattle.im_types.specs.Types.{is_below}
use Rattle.im_glass.proofs.{CopyLemmas.below-more, RoomLemmas.not-filled}
use Rattle.im_glass.specs.Panes.{is_filled, PaneView}
use Rattle.im_glass.proofs.pane.Pane.put_ahead.Goals as goal

pub push_reserved-requires : goal.push_reserved-requires
push_reserved-requires g c =
    let room = not-filled c.len.result c.len-2.result (sym c.is_filled.ensures ∙ c.if-is_filled.false) in
    omega (arith, room.0, c.len.ensures, c.self.invariant.8)

pub invariant_of-self : goal.invariant_of-self
invariant_of-self g c =
    let i = c.self.invariant in
    let now = c.self.inside.both.desk.shown.value in
    let items = c.self.inside.ahead.items in
    let below : is_below (length now.cells) c.args.change
    ≡ true = ap (λ (p : PaneView). is_below p.cells c.args.change) c.self.view_is ∙ c.requires in
    let room = not-filled c.len.result c.len-2.result (sym c.is_filled.ensures ∙ c.if-is_filled.false) in
    rw c.push_reserved.ensures.items (
      i.0,
      i.1,
      i.2,
      i.3,
      i.4,
      i.5,
      below-more (length now.cells) c.args.change below items i.6,
      omega (
        arith,
        length-append items (c.args.change ∷ []),
        room.0,
        room.1,
        c.len.ensures,
        c.len-2.ensures,
        c.self.inside.ahead.ok.0,
        ap length i.0,
      ),
      omega (arith, i.8, c.push_reserved.ensures.capacity),
    )

pub returns-clause-contents : goal.returns-clause-contents
returns-clause-contents g c =
    rw c.push_reserved.ensures.items
    (ap (λ (p : PaneView). record {
      shown = p.shown;
      ahead = p.ahead ++ c.args.change ∷ [];
      cells = p.cells;
      spare = p.spare;
    }) c.self.view_is)

pub returns-then-is_filled-clause-full : goal.returns-then-is_filled-clause-full
returns-then-is_filled-clause-full g c =
    sym c.if-is_filled.true ∙ c.is_filled.ensures
    ∙ ap (λ n. is_filled n c.len-2.result) (c.len.ensures ∙ c.self.inside.ahead.ok.0)
    ∙ ap (is_filled (length c.self.inside.ahead.items)) (c.len-2.ensures ∙ ap length c.self.invariant.0)
    ∙ ap (λ (p : PaneView). is_filled (length p.ahead) (length p.shown)) c.self.view_is

pub returns-clause-full : goal.returns-clause-full
returns-clause-full g c =
    sym c.if-is_filled.false ∙ c.is_filled.ensures
    ∙ ap (λ n. is_filled n c.len-2.result) (c.len.ensures ∙ c.self.inside.ahead.ok.0)
    ∙ ap (is_filled (length c.self.inside.ahead.items)) (c.len-2.ensures ∙ ap length c.self.invariant.0)
    ∙ ap (λ (p : PaneView). is_filled (length p.ahead) (length p.shown)) c.self.view_is
