use Rattle.std.proofs.Common.{◌≡◌, List, length, Option, sym, refl, ap, ◌∙◌, subst, arith}
use Rattle.std.proofs.lemmas.List.{length-replicate}
use Rattle.im_types.specs.Types.{Held, Contents, new_window, Sizes, sizes_of}
use Rattle.im_memory.specs.Restoring.{AreComplete, contents_shown, Parts}
use Rattle.im_image.proofs.Restored.{complete-of, parts-same}
use Rattle.im_migration.proofs.{Chained.free_cell, Fitted.length-fitted}
use Rattle.im_migration.proofs.OtherSizes.{chained, contents-are, cut, few-wait, is-resized, memory, no_cell, resized}
use Rattle.im_migration.specs.Resizing.{fitted, IsResized, lists_of}
use Rattle.im_migration.proofs.resizing.resize.Goals as goal

-- the sizes of a memory
abbrev own_sizes : Contents → Sizes
own_sizes m = record { cells = length m.cells; elements = length m.windows; slots = 0 }

pub new-requires : goal.new-requires
new-requires c = ap length c.in-Ok.ensures
    ∙ length-fitted free_cell c.args.limits.cells c.records-records.result.cells

pub put_lists-requires-clause-room : goal.put_lists-requires-clause-room
put_lists-requires-clause-room c =
    let m = c.args.memory.now.contents in
    let shown = c.records-records.ensures.shows (own_sizes m) refl refl in
    let few = few-wait (sizes_of c.args.limits) m c.requires (own_sizes m) c.records-records.result shown in
    let places = ap (λ (p : Parts). length p.windows) c.in-Ok-new.ensures.parts
    ∙ length-replicate c.args.limits.elements new_window in
    omega (arith, few, places)

-- the parts from which the memory is made
parts-are : (c : goal.After-put_windows) → c.put_windows.new.restoring ≡ record {
  cells = fitted free_cell c.args.limits.cells c.records-records.result.cells;
  lists = lists_of (fitted no_cell c.args.limits.cells c.args.memory.now.contents.cells);
  windows = fitted new_window c.args.limits.elements c.args.memory.now.contents.windows;
}
parts-are c = parts-same c.put_windows.new.restoring _
    (ap (λ (p : Parts). p.cells) c.put_windows.ensures ∙ ap (λ (p : Parts). p.cells) c.in-Ok-put_lists.ensures
    ∙ ap (λ (p : Parts). p.cells) c.in-Ok-new.ensures.parts ∙ c.in-Ok.ensures)
    (ap (λ (p : Parts). p.lists) c.put_windows.ensures ∙ ap (λ (p : Parts). p.lists) c.in-Ok-put_lists.ensures)
    (ap (λ (p : Parts). p.windows) c.put_windows.ensures)

pub finish-requires : goal.finish-requires
finish-requires c =
    let m = c.args.memory.now.contents in
    let s = sizes_of c.args.limits in
    let r = c.records-records.result in
    let shown = c.records-records.ensures.shows (own_sizes m) refl refl in
    subst AreComplete (sym (parts-are c))
    (complete-of s.elements s.cells (cut s m c.requires (own_sizes m) r shown)
    (lists_of (fitted no_cell s.cells m.cells)) (chained s m c.requires (own_sizes m) r shown)
    (memory s m c.requires (own_sizes m) r shown))

pub returns-clause-resized : goal.returns-clause-resized
returns-clause-resized c =
    let m = c.args.memory.now.contents in
    let s = sizes_of c.args.limits in
    let r = c.records-records.result in
    let shown = c.records-records.ensures.shows (own_sizes m) refl refl in
    let cells = contents-are s m c.requires (own_sizes m) r shown in
    let is : c.finish.result.contents ≡ resized s m c.requires = c.finish.ensures
    ∙ ap contents_shown (parts-are c.before) ∙ ap (with_cells m s) cells in
    subst (IsResized s m) (sym is) (is-resized s m c.requires)
  where
    with_cells : Contents → Sizes → List (Option Held) → Contents
    with_cells m s held = record { cells = held; windows = fitted new_window s.elements m.windows }
