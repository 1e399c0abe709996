use Rattle.std.proofs.Common.{◌≡◌, ◌<◌, ◌≤◌, sym, ◌∙◌, subst, ⊎_elim, arith}
use Rattle.std.proofs.lemmas.Bool.{cases_lt}
use Rattle.im_types.specs.Types.{sizes_of, record_at, Records, ShowsRecords}
use Rattle.im_image.proofs.Encoding.{area-shows, counted}
use Rattle.im_image.specs.Encoding.{AreCounted, IsAreaPage}
use Rattle.im_image.proofs.pages.encode.Goals as goal

pub loop-i-preserved : goal.loop-i-preserved
loop-i-preserved c =
    let s = sizes_of c.args.limits in
    let r = c.args.memory.now.records in
    let all : c.loop-i.i < c.area_pages-i-end.result = c.loop-i-test.true in (
      c.encode_into.auto.area ∙ c.loop-i.invariant.0,
      λ k lt. ⊎_elim
          (λ (less : k < c.loop-i.i). subst (IsAreaPage s r k)
          (sym (c.encode_into.ensures.others k (omega (arith, all, less, c.area_pages-i-end.ensures.pages))
          (λ e. omega arith))) (c.loop-i.invariant.1 k less))
          (λ (from : c.loop-i.i ≤ k).
          let same : c.loop-i.i ≡ k = omega arith in
          subst (λ i. IsAreaPage s r i (record_at 4096 c.encode_into.new.area i)) same c.encode_into.ensures.page)
          (cases_lt k c.loop-i.i),
    )

pub returns : goal.returns
returns c =
    let s = sizes_of c.args.limits in
    let r = c.args.memory.now.records in
    let m = c.args.memory.now.contents in
    let view = c.records-records.ensures.view in
    let count = subst (AreCounted s) view
    (counted s m c.records-records.result c.requires.cells c.requires.elements c.records-records.ensures.cells
    c.records-records.ensures.nodes c.records-records.ensures.windows) in
    let shows = subst (λ (x : Records). ShowsRecords s x m) view
    (c.records-records.ensures.shows s (sym c.requires.cells) (sym c.requires.elements)) in
    area-shows s r m c.loop-i.area count shows (c.loop-i.invariant.0 ∙ c.requires.area)
    (λ i lt. c.loop-i.invariant.1 i (omega (arith, c.area_pages-i-end.ensures.pages)))
