use Rattle.std.proofs.Common.{[], ◌++◌, length, ap, ◌∙◌, arith}
use Rattle.im_arena.specs.Lists.{list_at, Shown}
use Rattle.im_istore.proofs.{Cells.cells-list, Draining.emptied, Draining.moved, Draining.no_front, Draining.off}
use Rattle.im_istore.proofs.drain.Goals as goal

pub loop-reader-preserved : goal.loop-reader-preserved
loop-reader-preserved c =
    let before = c.loop-reader.invariant in
    let o = off c.loop-reader.arena c.next_reader.new.arena c.args.a c.in-Some.reader before.inside c.in-Some.ensures.first c.in-Some.ensures.rest in
    record {
      inside = omega (arith, o.count, before.inside);
      items =
          ap (λ items. items ++ list_at c.next_reader.new.arena.held c.args.a) c.push_reserved.ensures.items
          ∙ moved c.loop-reader.readers.items _ _ c.in-Some.reader o.front ∙ before.items;
      rest = o.rest ∙ before.rest;
      room = omega (arith, ap length o.front, c.push_reserved.ensures.len, c.push_reserved.ensures.capacity, before.room);
    }

pub returns-clause-cells : goal.returns-clause-cells
returns-clause-cells c = λ slots but.
    cells-list c.args.arena.now c.next_reader.new.arena c.args.a []
    (ap (λ (x : Shown). x.held) c.in_default.ensures.none
    ∙ emptied c.loop-reader.arena c.args.a (no_front _ c.in_default.ensures.first) ∙ c.loop-reader.invariant.rest)
    slots but
