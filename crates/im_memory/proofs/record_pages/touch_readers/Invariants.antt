use Rattle.std.proofs.Common.{◌≡◌, ◌+◌, ◌*◌, ◌≤◌, Bool, List, length}
use Rattle.im_pages.specs.{PageSets.IsWithin, PageSets.size_of, Places.page_of_node, Places.page_of_session}
use Rattle.im_arena.specs.Lists.{ends_at, first_in, list_at}
use Rattle.im_memory.{proofs.CoverLemmas.elements_of, specs.Covering.AreIn, specs.Touched.nodes_from}

-- a set that has all that is there so far, and what is left, has all
abbrev pub invariant-loop-reader : Rattle.im_memory.proofs.record_pages.touch_readers.Given.invariant-loop-reader
invariant-loop-reader l = record {
  nodes : (set : List Bool) → IsWithin l.pages set
      → AreIn (page_of_node (length l.arena.held.lists)) set
      (nodes_from l.arena.links.records l.at (length l.reader-iterator))
      → AreIn (page_of_node (length l.arena.held.lists)) set
      (nodes_from l.arena.links.records (first_in (ends_at l.arena.links l.a)) (length (list_at l.arena.held l.a)));
  sessions : (set : List Bool) → IsWithin l.pages set
      → AreIn (page_of_session (length l.arena.held.lists) l.elements) set (elements_of l.reader-iterator)
      → AreIn (page_of_session (length l.arena.held.lists) l.elements) set (elements_of (list_at l.arena.held l.a));
  kept : IsWithin l.initial.pages l.pages;
  few : size_of l.pages + 2 * length l.reader-iterator
      ≤ size_of l.initial.pages + 2 * length (list_at l.arena.held l.a);
  length : length l.pages ≡ length l.initial.pages;
}
