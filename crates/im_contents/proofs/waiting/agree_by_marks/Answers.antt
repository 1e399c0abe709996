use Rattle.std.proofs.Common.{sym, ◌∙◌, true≢false}
use Rattle.im_types.specs.Types.{cells_shown}
use Rattle.im_contents.proofs.PlaceLemmas.{agrees_where_marked, disagrees}
use Rattle.im_contents.proofs.waiting.agree_by_marks.Goals as goal

pub returns-then-mark_all : goal.returns-then-mark_all
returns-then-mark_all c =
    let both = agrees_where_marked c.args.windows.now c.requires.few
    (cells_shown c.args.cells.now c.args.lists.now) c.args.marks.now c.requires.unmarked c.mark_all.new.marks
    c.if-mark_all.ensures in
    (λ yes. both.0 (c.are_marked.ensures.0 yes), λ agree. c.are_marked.ensures.1 (both.1 agree))

pub returns-else-mark_all : goal.returns-else-mark_all
returns-else-mark_all c = (
  λ yes. absurd (true≢false (sym yes ∙ c.if-mark_all.false)),
  λ agree. absurd (disagrees c.args.windows.now c.requires.few
      (cells_shown c.args.cells.now c.args.lists.now) c.args.marks.now c.requires.unmarked c.if-mark_all.ensures agree),
)
