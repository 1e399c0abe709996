use Rattle.std.proofs.Common.{◌≡◌, [], take}

abbrev pub invariant-loop-change : Rattle.im_glass.proofs.unnamed.opened.Given.invariant-loop-change
invariant-loop-change g l =
    (l.pane.shown ≡ take l.change-index l.fn.changes)
    × (l.pane.ahead ≡ [])
    × (l.pane.cells ≡ l.fn.sizes.cells)
    × (l.pane.spare ≡ l.fn.sizes.readers)
