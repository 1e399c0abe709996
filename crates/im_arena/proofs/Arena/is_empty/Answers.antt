use Rattle.std.proofs.{Common.arith, Common.eq-eqb, lemmas.Bool.Decides.nat_tests}
use Rattle.im_arena.proofs.Views.{first-none, inside-held, none-first}

pub returns : Rattle.im_arena.proofs.Arena.is_empty.Goals.returns
returns c =
    let inside = inside-held _ _ _ _ c.self.invariant _ (rw (← c.self.view_is) at c.requires) in
    rw (← c.self.view_is) (
      λ none. none-first _ _ _ _ c.self.invariant _ c.index.result.now inside c.index.ensures
          (grind (arith, nat_tests)),
      λ empty. let none = first-none _ _ _ _ c.self.invariant _ c.index.result.now inside c.index.ensures empty in eq-eqb _ _ (omega arith),
    )
