use Rattle.std.proofs.Common.{◌≡◌, ◌+◌, ◌-◌, List, ◌++◌, map, length, drop, sym, refl, ap, ◌∙◌, arith, length-append}
use Rattle.{im_types.specs.Types.Served, im_types.specs.Types.as_served, im_checkpoint.specs.Step.changed_in}
use Rattle.im_groups.specs.Commands.{answers_with, most_pages_with}
use Rattle.im_engine.proofs.Adding.{adds_next}
use Rattle.im_engine.proofs.Members.{answers_next, contents_next, left_taken, whole_first, whole_next}
use Rattle.im_engine.proofs.whole.act_whole.Goals as goal

pub tell_taken-requires-clause-taken : goal.tell_taken-requires-clause-taken
tell_taken-requires-clause-taken c =
    whole_first c.loop-i.memory.contents c.loop-i.left c.args.members.now c.loop-i.i _ c.loop-i-test.true
    c.loop-i.invariant.accepted c.loop-i.invariant.enough

pub loop-i-preserved : goal.loop-i-preserved
loop-i-preserved c =
    let inv = c.loop-i.invariant in
    let e = c.tell_taken.ensures in
    let m = c.loop-i.memory.contents in
    let left = c.loop-i.left in
    let rs = c.args.members.now in
    let i = c.loop-i.i in
    let new = c.tell_taken.new in
    let takes = whole_first m left rs i _ c.loop-i-test.true inv.accepted inv.enough in
    let less : new.left ≡ left - 1 = e.behind.1 ∙ sym (left_taken m left _ takes) in
    let more = map as_served (answers_with new.memory.contents new.left (drop (i + 1) rs)) in
    record {
      size = omega (arith, inv.size, ap length e.answer, length-append {A = Served});
      answers = ap (λ (l : List Served). l ++ more) e.answer
          ∙ answers_next m left c.loop-i.served.items rs i _ _ new.memory.contents new.left
          c.loop-i-test.true refl e.behind.0 e.behind.1 ∙ inv.answers;
      contents = contents_next m left rs i _ new.memory.contents new.left c.loop-i-test.true e.behind.0 e.behind.1
          ∙ inv.contents;
      accepted = whole_next m left rs i _ new.memory.contents c.loop-i-test.true inv.accepted inv.enough e.behind.0;
      enough = omega (arith, inv.enough, less, c.loop-i-test.true);
      sizes = e.sizes;
      state = e.stays.state ∙ inv.state;
      pages = adds_next m left rs i _ new.memory.contents new.left
          (most_pages_with c.args.memory.now.contents c.args.places rs) (changed_in c.args.checkpoint.now)
          (changed_in c.loop-i.checkpoint) (changed_in new.checkpoint) c.loop-i-test.true
          e.behind.0 e.behind.1 inv.pages e.stays.pages;
      kept = λ n j now kept. e.kept n j now (inv.kept n j now kept);
    }
