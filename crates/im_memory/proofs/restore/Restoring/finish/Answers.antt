use Rattle.std.proofs.Common.{sym, ap, ◌∙◌, subst}
use Rattle.im_memory.proofs.RestoreLemmas.{restored-blocks, restored-contents, restored-makes}
use Rattle.im_memory.specs.MakesMemory.{contents_of, MakesMemory}
use Rattle.im_memory.specs.Restoring.{AreComplete, contents_shown}
use Rattle.im_memory.proofs.restore.Restoring.finish.Goals as goal

pub in_room-requires-clause-blocks : goal.in_room-requires-clause-blocks
in_room-requires-clause-blocks c =
    let i = c.self.inside in
    restored-blocks i.cells i.arena i.sessions (subst AreComplete (sym c.self.view_is) c.requires)

pub invariant_of-result : goal.invariant_of-result
invariant_of-result c =
    let i = c.self.inside in
    subst (λ slots. MakesMemory slots i.arena i.sessions) (sym c.in_room.ensures)
    (restored-makes i.cells i.arena i.sessions
    (subst AreComplete (sym c.self.view_is) c.requires) _ c.self.invariant)

pub returns : goal.returns
returns c =
    let i = c.self.inside in
    ap (λ slots. contents_of slots i.arena i.sessions) c.in_room.ensures
    ∙ restored-contents i.cells i.arena i.sessions (subst AreComplete (sym c.self.view_is) c.requires)
    ∙ ap contents_shown c.self.view_is
