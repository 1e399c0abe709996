use Rattle.std.proofs.Common.{◌≡◌, ◌+◌, ◌≤◌, ◌++◌, map, length, drop}
use Rattle.{im_types.specs.Types.Contents, im_types.specs.Types.as_served, im_disk.specs.Moment.Moment}
use Rattle.{im_journal.specs.Holding.JournalState, im_groups.specs.Ahead.AreAccepted, im_image.specs.Reading.HasSizes}
use Rattle.im_groups.specs.Commands.{answers_with, contents_after_all, most_pages_with}
use Rattle.im_checkpoint.specs.{Keeping.IsKept, Keeping.paged, Step.changed_in}
use Rattle.im_engine.proofs.Adding.{AddsSoFar}

abbrev pub invariant-loop-i : Rattle.im_engine.proofs.whole.act_whole.Given.invariant-loop-i
invariant-loop-i l = record {
  size : length l.served.items ≡ l.i;
  answers : l.served.items ++ map as_served (answers_with l.memory.contents l.left (drop l.i l.members))
      ≡ map as_served (answers_with l.fn.memory.contents l.places l.members);
  contents : contents_after_all l.memory.contents l.left (drop l.i l.members)
      ≡ contents_after_all l.fn.memory.contents l.places l.members;
  accepted : AreAccepted l.memory.contents (drop l.i l.members);
  enough : length l.members ≤ l.left + l.i;
  sizes : HasSizes l.checkpoint.state.header.sizes l.memory.contents;
  state : l.checkpoint.state ≡ l.fn.checkpoint.state;
  pages : AddsSoFar (most_pages_with l.memory.contents l.left (drop l.i l.members))
      (most_pages_with l.fn.memory.contents l.places l.members) (changed_in l.fn.checkpoint)
      (changed_in l.checkpoint);
  kept : (m : Contents) (j : JournalState) (now : Moment)
      → IsKept l.fn.checkpoint.state (paged l.fn.checkpoint l.fn.memory) m j now
      → IsKept l.checkpoint.state (paged l.checkpoint l.memory) m j now;
}
