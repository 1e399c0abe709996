use Rattle.std.proofs.Common.{false, ◌&&◌, List, take, replicate, nat_lt, sym, refl, ◌∙◌, subst, rules}
use Rattle.im_types.specs.Types.{Command}
use Rattle.im_groups.proofs.{CommandLemmas.at-accepted, MarkLemmas.marked-next, MarkLemmas.none_marked}
use Rattle.im_groups.proofs.JudgedLemmas.{all-begins, judged-next, stops-begins, taken-next}
use Rattle.im_groups.specs.{Ahead.AreAccepted, Marks.HaveMarks}
use Rattle.im_groups.proofs.judging.judge_each.Goals as goal

pub loop-i-init : goal.loop-i-init
loop-i-init c = record {
  few = search rules;
  size = search rules;
  commands = search rules;
  taken = search rules;
  left = search rules;
  marked = none_marked (replicate 64 false) _ c.requires.empty;
}

pub judge_member-requires-clause-accepted : goal.judge_member-requires-clause-accepted
judge_member-requires-clause-accepted c =
    subst (λ (l : List Command). AreAccepted c.args.memory.now.contents l)
    (sym (c.of-ahead.ensures ∙ c.as_slice.ensures.value ∙ c.loop-i.invariant.commands))
    (at-accepted c.args.memory.now.contents c.args.places (take c.loop-i.i c.args.members.now))

pub judge_member-requires-clause-marked : goal.judge_member-requires-clause-marked
judge_member-requires-clause-marked c =
    subst (λ (l : List Command). HaveMarks c.loop-i.marks l) (sym (c.of-ahead.ensures ∙ c.as_slice.ensures.value))
    c.loop-i.invariant.marked

pub returns-in-None-clause-begins : goal.returns-in-None-clause-begins
returns-in-None-clause-begins c =
    stops-begins c.args.memory.now.contents c.loop-i.commands.items c.of-ahead.result c.args.members.now c.loop-i.i _
    c.loop-i-test.true c.loop-i.invariant.few (c.of-ahead.ensures ∙ c.as_slice.ensures.value) (c.in-None.ensures.unsure
    refl)

pub loop-i-preserved : goal.loop-i-preserved
loop-i-preserved c =
    let inv = c.loop-i.invariant in
    let e = c.add_member.ensures in
    let next = judged-next c.args.memory.now.contents c.args.places c.args.members.now c.of-ahead.result
    c.loop-i.commands.items c.add_member.new.commands.items c.loop-i.left c.add_member.new.left c.loop-i.i _
    c.in-Some.accepted c.loop-i-test.true inv.few (c.of-ahead.ensures ∙ c.as_slice.ensures.value) inv.commands
    inv.left c.in-Some.ensures.found e.commands e.left in
    record {
      few = next.few;
      size = search rules;
      commands = next.commands_are;
      taken = c.push.ensures.items
          ∙ taken-next c.args.memory.now.contents c.args.places c.args.members.now c.of-ahead.result
          c.loop-i.commands.items c.loop-i.taken.items c.loop-i.left c.loop-i.i _ c.in-Some.accepted
          c.add_member.result c.loop-i-test.true (c.of-ahead.ensures ∙ c.as_slice.ensures.value) inv.commands inv.left
          inv.taken
          c.in-Some.ensures.found e.taken;
      left = next.left_is;
      marked = marked-next c.loop-i.marks _ c.loop-i.commands.items c.add_member.new.commands.items _
          (c.in-Some.accepted && nat_lt 0 c.loop-i.left) inv.marked c.mark.ensures e.commands;
    }

pub returns-clause-begins : goal.returns-clause-begins
returns-clause-begins c = all-begins c.args.memory.now.contents c.loop-i.commands.items c.args.members.now _ refl
