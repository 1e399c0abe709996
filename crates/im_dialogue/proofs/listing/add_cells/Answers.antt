use Rattle.std.proofs.Common.{◌≡◌, ℕ, ◌++◌, OnOk, string_bytes, codes, sym, subst}
use Rattle.std.specs.List.{range_with_len}
use Rattle.im_dialogue.proofs.ListLemmas.{length_range}
use Rattle.im_dialogue.specs.Showing.{cell_said, list_line, list_said}

pub returns : Rattle.im_dialogue.proofs.listing.add_cells.Goals.returns
returns c =
    let m = c.args.memory.now.contents in
    let many = c.many_from-many.result in
    subst (λ (n : ℕ). OnOk c.add_cell_list.result (string_bytes c.add_cell_list.new.out
    ≡ string_bytes c.args.out.now ++ list_line (codes "cells") (cell_said m) (range_with_len c.args.from n)))
    c.many_from-many.ensures.is
    (subst (λ (n : ℕ). OnOk c.add_cell_list.result (string_bytes c.add_cell_list.new.out
    ≡ string_bytes c.args.out.now ++ list_said (codes "cells") n (cell_said m) (range_with_len c.args.from many)))
    (sym (length_range c.args.from many)) c.add_cell_list.ensures)
