use Rattle.im_checkpoint.proofs.Copied.{none-kept}

pub invariant_of-result : Rattle.im_checkpoint.proofs.page_copies.PageCopies.new.Goals.invariant_of-result
invariant_of-result c =
    none-kept c.in_ok-places.places.items c.in_ok-pages.pages.items _ c.args.pages
    (c.in_ok-places.ensures.items_if_clones_equal
    (λ y k. k)) c.in_ok-pages.ensures.items c.in_ok-pages.ensures.exact
