use Rattle.std.proofs.Common.{sym, refl, true≢false}
use Rattle.im_types.specs.Types.{sizes_of}
use Rattle.im_contents.proofs.ContentsLemmas.{agrees_of, parts_of, shown_of}
use Rattle.im_contents.proofs.contents.read_contents.Goals as goal

pub returns-then-not-have_parts-clause-bad : goal.returns-then-not-have_parts-clause-bad
returns-then-not-have_parts-clause-bad c = λ _ m shown.
    true≢false (sym (c.if-not-have_parts.ensures.1
    (parts_of (sizes_of c.args.limits)
    (record { cells = c.args.cells.now; nodes = c.args.nodes.now; windows = c.args.windows.now }) m shown)))

pub returns-in-Err-clause-bad : goal.returns-in-Err-clause-bad
returns-in-Err-clause-bad c = λ e m shown. c.in-Err.ensures.bad e shown.lists shown.chained

pub returns-in-Ok-true-clause-found : goal.returns-in-Ok-true-clause-found
returns-in-Ok-true-clause-found c =
    shown_of (sizes_of c.args.limits)
    (record { cells = c.args.cells.now; nodes = c.args.nodes.now; windows = c.args.windows.now })
    (c.if-not-have_parts.ensures.0 refl) c.in-Ok.lists c.in-Ok.ensures.found
    ((rw c.in-Ok-true.field-0-test at c.in-Ok-true.ensures).0 refl)

pub returns-in-Ok-false-clause-bad : goal.returns-in-Ok-false-clause-bad
returns-in-Ok-false-clause-bad c = λ _ m shown.
    true≢false (sym ((rw c.in-Ok-false.field-0-test at c.in-Ok-false.ensures).1
    (agrees_of (sizes_of c.args.limits)
    (record { cells = c.args.cells.now; nodes = c.args.nodes.now; windows = c.args.windows.now }) c.requires m shown
    c.in-Ok.lists c.in-Ok.ensures.found)))
