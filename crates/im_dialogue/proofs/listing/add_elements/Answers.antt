use Rattle.std.proofs.Common.{◌≡◌, ℕ, ◌++◌, length, OnOk, string_bytes, codes, sym, ◌∙◌, subst, rules}
use Rattle.std.specs.List.{range_with_len}
use Rattle.im_types.specs.Types.{bounds}
use Rattle.im_dialogue.{proofs.ListLemmas.length_range, specs.Showing.list_said, specs.Showing.window_said}

pub returns : Rattle.im_dialogue.proofs.listing.add_elements.Goals.returns
returns c =
    let windows = c.args.memory.now.contents.windows in
    let many : c.elements.result ≡ length windows = search rules in
    subst (λ (n : ℕ). OnOk c.add_window_list.result (string_bytes c.add_window_list.new.out
    ≡ string_bytes c.args.out.now ++ list_said (codes "elements") n (λ e. window_said e (bounds windows e))
    (range_with_len 0 (length windows))))
    (many ∙ sym (length_range 0 (length windows))) c.add_window_list.ensures
