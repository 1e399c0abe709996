use Rattle.std.proofs.Common.{List, [], ◌∷◌, ◌++◌, refl, ap, ◌∙◌}
use Rattle.im_glass.specs.declared.copies.Ahead.{Ahead}

pub returns-in-Ok-clause-one : Rattle.im_glass.proofs.sides.append.Goals.returns-in-Ok-clause-one
returns-in-Ok-clause-one g c =
    let one : Ahead = record { change = c.args.change; count = c.len.result; seen = c.seen.result } in
    record {
      one = one;
      is = c.in-Ok.ensures.pending ∙ ap (λ (l : List Ahead). l ++ one ∷ []) c.loop.invariant.3;
      change_is = refl;
      book_is = c.seen.ensures.book;
      list_is = c.seen.ensures.log;
      count_is = c.len.ensures;
    }
