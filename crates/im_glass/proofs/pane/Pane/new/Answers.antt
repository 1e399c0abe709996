use Rattle.std.proofs.Common.{◌≡◌, true, List, [], length, sym, ap, ◌∙◌, subst, arith}
use Rattle.logbook.specs.Pages.{Book}
use Rattle.std.specs.List.{AllByRecursion}
use Rattle.im_types.specs.Types.{is_below, Change}
use Rattle.im_glass.{proofs.CopyLemmas.new-kept, specs.Copies.CopyState, specs.Rule.copy_state}

pub invariant_of-result : Rattle.im_glass.proofs.pane.Pane.new.Goals.invariant_of-result
invariant_of-result g c =
    let w = c.in-Ok-copies.both in
    let now = w.desk.shown.value in
    let same = c.spare_readers.ensures.same in
    let none = c.in-Ok-copies.ensures.none in
    let seen : now.seen ≡ c.seen.result = ap (λ (s : CopyState). s.0) c.in-Ok-copies.ensures.state in
    let empty : c.seen.result.log ≡ [] = c.seen.ensures.log ∙ c.named-book.ensures in
    let log : now.seen.log ≡ [] = ap (λ s. s.log) seen ∙ empty in
    let book : now.seen.book ≡ g.J.PaneName.book = ap (λ s. s.book) seen ∙ c.seen.ensures.book in
    let room = c.in-Ok.ensures in
    let nothing : c.in-Ok.ahead.items ≡ [] = room.items in
    rw (same.0, same.1, same.2, c.spare_readers.ensures.known) (
      c.named-book.ensures ∙ sym log,
      none,
      book,
      new-kept (copy_state now) c.seen.result c.args.cells empty c.in-Ok-copies.ensures.state,
      c.in-Ok-copies.ensures.known,
      subst (λ (b : Book). AllByRecursion
          (λ (a : Book). a ≡ b) c.in-Ok-spare_readers.spare.items) book c.in-Ok-spare_readers.ensures.book,
      subst (λ (l : List Change). AllByRecursion (λ (d : Change). is_below (length now.cells) d ≡ true) l)
          (sym nothing) tt,
      omega (arith, ap length log, ap length nothing),
      room.capacity,
    )
