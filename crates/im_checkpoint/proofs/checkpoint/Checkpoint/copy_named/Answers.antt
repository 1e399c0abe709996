use Rattle.std.proofs.Common.{◌≡◌, ℕ, ◌+◌, ◌<◌, ◌≤◌, Bool, true, false, List, length, replicate, Contains, sym, ap, ◌∙◌}
use Rattle.std.proofs.Common.{subst, arith}
use Rattle.std.proofs.lemmas.List.{length-replicate}
use Rattle.im_types.specs.Types.{layout_in_use, area_pages, Header}
use Rattle.im_pages.proofs.SetLemmas.{length-union, listed}
use Rattle.im_pages.specs.PageSets.{has, pages_from, size_of, union}
use Rattle.im_memory.specs.Covering.{IsAlone, IsOfBlock, most_pages}
use Rattle.im_image.specs.{Encoding.IsAreaPage, Headers.seen}
use Rattle.im_checkpoint.proofs.{Adding.adds_named, PageLists.header_is, PageLists.step_left}
use Rattle.im_checkpoint.proofs.Copying.{new_in_union, out_of_union}
use Rattle.im_checkpoint.specs.{Copied.copy_of, Turns.AddsPages}
use Rattle.im_checkpoint.specs.Step.{Changed, changed_in, left_in, PagedCheckpoint}
use Rattle.im_checkpoint.proofs.checkpoint.Checkpoint.copy_named.Goals as goal

pub invariant_of-self : goal.invariant_of-self
invariant_of-self c =
    let e = c.self.inside in
    let m = c.args.memory.now in
    let named : List Bool = c.touches.new.pages in
    let named_size : length c.touches.new.pages
    ≡ area_pages layout_in_use (seen e.header).sizes = c.touches.ensures.length ∙ ap length c.clear.ensures
    ∙ length-replicate (length e.named) false ∙ c.self.invariant.named_size in
    let same : length e.recent ≡ length c.touches.new.pages = c.self.invariant.recent_size ∙ sym named_size in
    record {
      number = c.self.invariant.number;
      recent_size = ap length c.union_with.ensures ∙ length-union e.recent named ∙ c.self.invariant.recent_size;
      older_size = c.self.invariant.older_size;
      left_size = c.self.invariant.left_size;
      named_size = named_size;
      next_low = c.self.invariant.next_low;
      next_left = c.self.invariant.next_left;
      space = c.copy_pages.ensures.space ∙ c.self.invariant.space;
      later = c.self.invariant.later;
    }

pub returns : goal.returns
returns c =
    let e = c.self.inside in
    let m = c.args.memory.now in
    let named : List Bool = c.touches.new.pages in
    let named_size : length c.touches.new.pages
    ≡ area_pages layout_in_use (seen e.header).sizes = c.touches.ensures.length ∙ ap length c.clear.ensures
    ∙ length-replicate (length e.named) false ∙ c.self.invariant.named_size in
    let same : length e.recent ≡ length c.touches.new.pages = c.self.invariant.recent_size ∙ sym named_size in
    let header : seen e.header
    ≡ c.args.self.now.state.header = header_is c.args.self.now (seen e.header) e.step e.count
    (pages_from e.next e.left) e.recent e.older e.copies c.self.view_is in
    let recent : e.recent ≡ c.args.self.now.recent = ap (λ (s : PagedCheckpoint). s.recent) c.self.view_is in
    let none : c.clear.new.self ≡ replicate (length e.recent) false = c.clear.ensures
    ∙ ap (λ (n : ℕ). replicate n false) (c.self.invariant.named_size ∙ sym c.self.invariant.recent_size) in
    let adds : AddsPages m.contents c.args.command.now (record { recent = e.recent; older = e.older })
    (record { recent = union e.recent c.touches.new.pages; older = e.older }) =
    adds_named m c.args.command.now e.recent named e.older (c.touches.ensures.length ∙ ap length none) same
    c.touches.ensures.covers
    (subst (λ (s : List Bool). size_of named ≤ size_of s + most_pages m.contents c.args.command.now) none
    c.touches.ensures.few)
    (subst (λ (s : List Bool). IsOfBlock m.contents c.args.command.now s named) none
    c.touches.ensures.block)
    (subst (λ (s : List Bool). IsAlone m.contents c.args.command.now s named) none
    c.touches.ensures.alone) in
    let left : left_in c.args.self.now.state.step
    ≡ pages_from e.next e.left = ap left_in
    (step_left c.args.self.now (seen e.header) e.step e.count
    (pages_from e.next e.left) e.recent e.older e.copies c.self.view_is c.requires.step) in
    record {
      state = ap (λ (s : PagedCheckpoint). s.state) c.self.view_is;
      adds = subst (λ (s : List Bool). AddsPages m.contents c.args.command.now (changed_in c.args.self.now)
          (record { recent = s; older = e.older })) (sym c.union_with.ensures)
          (subst (λ (s : Changed). AddsPages m.contents c.args.command.now s
          (record { recent = union e.recent c.touches.new.pages; older = e.older }))
          (ap (λ (s : PagedCheckpoint). changed_in s) c.self.view_is) adds);
      others = λ after changes page out. c.touches.ensures.others after changes page
          (out_of_union e.recent named same page (sym (ap (λ (s : List Bool). has s page) c.union_with.ensures) ∙ out));
      copied = λ page lt among fresh there.
          let low : page < area_pages layout_in_use (seen e.header).sizes = subst
          (λ (h : Header). page < area_pages layout_in_use h.sizes) (sym header) lt in
          let unchanged : has e.recent page ≡ false = ap (λ (s : List Bool). has s page) recent ∙ fresh in
          let it = listed e.left e.next page (subst (λ (l : List ℕ). Contains l page) left among) in
          let is_named : has named page
          ≡ true = new_in_union e.recent named same page
          (omega (arith, low, c.self.invariant.recent_size)) unchanged
          (sym (ap (λ (s : List Bool). has s page) c.union_with.ensures) ∙ there) in
          subst (λ (h : Header). IsAreaPage h.sizes m.records page (copy_of c.copy_pages.new.copies page)) header
          (c.copy_pages.ensures.copied page it.from low is_named it.there unchanged);
      stay = λ page lt there.
          let low : page < area_pages layout_in_use (seen e.header).sizes = subst
          (λ (h : Header). page < area_pages layout_in_use h.sizes) (sym header) lt in
          c.copy_pages.ensures.stay page low (ap (λ (s : List Bool). has s page) recent ∙ there)
          ∙ ap (λ (s : PagedCheckpoint). copy_of s.copies page) c.self.view_is;
    }
