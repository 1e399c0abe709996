use Rattle.std.proofs.Common.{ℕ, ◌+◌, ◌/◌, false, List, replicate, ap, ◌∙◌, arith}
use Rattle.im_pages.{proofs.BitLemmas.set-none, specs.Words.bits_of}

pub returns-clause-none : Rattle.im_pages.proofs.sets.PageSet.new.Goals.returns-clause-none
returns-clause-none c =
    let n = c.area_pages-pages.result in
    ap (λ (l : List ℕ). bits_of l n) (c.in-Ok.ensures.items_if_clones_equal (λ y e. e))
    ∙ set-none ((n + 63) / 64) n (omega arith) ∙ ap (λ (k : ℕ). replicate k false) c.area_pages-pages.ensures.pages
