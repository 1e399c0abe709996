use Rattle.std.proofs.Common.{map, take, None, sym, ap, ◌∙◌, arith}
use Rattle.std.proofs.lemmas.Option.{get_or_from_slice_get}
use Rattle.im_arena.{proofs.Views.ends-read, specs.Lists.last_in, specs.Table.ends_of}
use Rattle.im_arena.proofs.Arena.last.Goals as goal

pub returns-in-Some : goal.returns-in-Some
returns-in-Some c =
    let read = ends-read _ _ _ _ c.self.invariant _ c.index.result.now (omega arith) c.index.ensures in
    rw (← c.self.view_is)
    (sym (ap last_in (get_or_from_slice_get
    (take c.self.inside.lists (map ends_of c.self.inside.rows.items)) c.args.list _ None (sym read)
    ∙ sym c.ends.ensures ∙ c.in-Some.is)))

pub returns-in-None : goal.returns-in-None
returns-in-None c =
    let read = ends-read _ _ _ _ c.self.invariant _ c.index.result.now (omega arith) c.index.ensures in
    rw (← c.self.view_is)
    (sym (ap last_in (get_or_from_slice_get
    (take c.self.inside.lists (map ends_of c.self.inside.rows.items)) c.args.list _ None (sym read)
    ∙ sym c.ends.ensures ∙ c.in-None.is)))
