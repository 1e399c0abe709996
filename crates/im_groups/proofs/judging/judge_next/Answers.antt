use Rattle.std.proofs.Common.{◌&&◌, List, ◌++◌, length, take, nat_lt, sym, refl, ap, ◌∙◌, subst, rules}
use Rattle.im_types.specs.Types.{Command, after}
use Rattle.im_groups.proofs.{CommandLemmas.at-accepted, MarkLemmas.group_marked, MarkLemmas.marked-behind}
use Rattle.im_groups.proofs.JudgedLemmas.{accepted-both, all-behind, behind-found, judged-next, stops-behind}
use Rattle.im_groups.proofs.JudgedLemmas.{taken-next}
use Rattle.im_groups.specs.{Ahead.AreAccepted, Marks.HaveMarks}
use Rattle.im_groups.proofs.judging.judge_next.Goals as goal

pub loop-i-init : goal.loop-i-init
loop-i-init c = record {
  few = search rules;
  size = search rules;
  commands = search rules;
  taken = search rules;
  left = search rules;
  marked = group_marked c.mark_all.new.marks c.args.group.now _ c.mark_all.ensures c.requires.empty.0;
}

pub judge_member-requires-clause-accepted : goal.judge_member-requires-clause-accepted
judge_member-requires-clause-accepted c =
    let m = c.args.memory.now.contents in
    subst (λ (l : List Command). AreAccepted m l)
    (sym (c.of-ahead.ensures ∙ ap (λ (l : List Command). c.args.group.now ++ l) (c.as_slice.ensures.value
    ∙ c.loop-i.invariant.commands)))
    (accepted-both m c.args.group.now _ c.requires.accepted
    (at-accepted (after m c.args.group.now) (length c.args.members.now) (take c.loop-i.i c.args.members.now)))

pub judge_member-requires-clause-marked : goal.judge_member-requires-clause-marked
judge_member-requires-clause-marked c =
    subst (λ (l : List Command). HaveMarks c.loop-i.marks l)
    (sym (c.of-ahead.ensures ∙ ap (λ (l : List Command). c.args.group.now ++ l) c.as_slice.ensures.value))
    c.loop-i.invariant.marked

pub returns-in-None-clause-begins : goal.returns-in-None-clause-begins
returns-in-None-clause-begins c =
    stops-behind c.args.memory.now.contents c.args.group.now c.loop-i.commands.items c.of-ahead.result
    c.args.members.now c.loop-i.i _ c.loop-i-test.true c.loop-i.invariant.few
    (c.of-ahead.ensures ∙ ap (λ (l : List Command). c.args.group.now ++ l) c.as_slice.ensures.value)
    (c.in-None.ensures.unsure refl)

pub loop-i-preserved : goal.loop-i-preserved
loop-i-preserved c =
    let inv = c.loop-i.invariant in
    let e = c.add_member.ensures in
    let m = c.args.memory.now.contents in
    let group = c.args.group.now in
    let places = length c.args.members.now in
    let found = behind-found m group c.of-ahead.result c.as_slice.result.now _ c.in-Some.accepted c.of-ahead.ensures
    c.in-Some.ensures.found in
    let next = judged-next (after m group) places c.args.members.now c.as_slice.result.now
    c.loop-i.commands.items c.add_member.new.commands.items c.loop-i.left c.add_member.new.left c.loop-i.i _
    c.in-Some.accepted c.loop-i-test.true inv.few c.as_slice.ensures.value inv.commands
    inv.left found e.commands e.left in
    record {
      few = next.few;
      size = search rules;
      commands = next.commands_are;
      taken = c.push.ensures.items
          ∙ taken-next (after m group) places c.args.members.now c.as_slice.result.now
          c.loop-i.commands.items c.loop-i.taken.items c.loop-i.left c.loop-i.i _ c.in-Some.accepted
          c.add_member.result c.loop-i-test.true c.as_slice.ensures.value inv.commands inv.left inv.taken
          found e.taken;
      left = next.left_is;
      marked = marked-behind c.loop-i.marks _ group c.loop-i.commands.items c.add_member.new.commands.items _
          (c.in-Some.accepted && nat_lt 0 c.loop-i.left) inv.marked c.mark.ensures e.commands;
    }

pub returns-clause-begins : goal.returns-clause-begins
returns-clause-begins c = all-behind c.args.memory.now.contents c.args.group.now c.loop-i.commands.items
    c.args.members.now _ refl
