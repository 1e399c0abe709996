use Rattle.std.proofs.Common.{true, List, take, sym, refl, subst, arith, length-take, rules}
use Rattle.std.proofs.lemmas.List.{take_more}
use Rattle.im_types.specs.Types.{Command, after}
use Rattle.im_groups.proofs.JudgedLemmas.{accepted-both, all-behind, behind-found, stops-behind}
use Rattle.im_groups.proofs.MarkLemmas.{group_marked, marked-behind}
use Rattle.im_groups.proofs.WholeLemmas.{accepted-next, none-before, refused-next}
use Rattle.im_groups.specs.{Ahead.AreAccepted, Marks.HaveMarks}
use Rattle.im_groups.proofs.judging.judge_whole_next.Goals as goal

pub loop-i-init : goal.loop-i-init
loop-i-init c = record {
  accepted = search rules;
  marked = group_marked c.mark_all.new.marks c.args.group.now _ c.mark_all.ensures (none-before c.args.members.now);
}

pub take_member-requires-clause-accepted : goal.take_member-requires-clause-accepted
take_member-requires-clause-accepted c =
    subst (λ (l : List Command). AreAccepted c.args.memory.now.contents l) (sym c.of-ahead.ensures)
    (accepted-both c.args.memory.now.contents c.args.group.now (take c.loop-i.i c.args.members.now) c.requires.accepted
    c.loop-i.invariant.accepted)

pub take_member-requires-clause-marked : goal.take_member-requires-clause-marked
take_member-requires-clause-marked c =
    subst (λ (l : List Command). HaveMarks c.loop-i.marks l) (sym c.of-ahead.ensures) c.loop-i.invariant.marked

pub loop-i-preserved : goal.loop-i-preserved
loop-i-preserved c =
    let inv = c.loop-i.invariant in
    let m = c.args.memory.now.contents in
    let group = c.args.group.now in
    let members = c.args.members.now in
    record {
      accepted = accepted-next (after m group) members c.loop-i.i _ c.in-Some.accepted c.loop-i-test.true inv.accepted
          (behind-found m group c.of-ahead.result (take c.loop-i.i members) _ _ c.of-ahead.ensures
          c.in-Some.ensures.found) c.if-not-accepted.false;
      marked = marked-behind c.loop-i.marks _ group (take c.loop-i.i members) _ _ true inv.marked
          (c.in-Some.ensures.marks c.if-not-accepted.false)
          (take_more members c.loop-i.i _ c.loop-i-test.true);
    }

pub returns-in-None-clause-begins : goal.returns-in-None-clause-begins
returns-in-None-clause-begins c =
    stops-behind c.args.memory.now.contents c.args.group.now (take c.loop-i.i c.args.members.now) c.of-ahead.result
    c.args.members.now c.loop-i.i _ c.loop-i-test.true
    (omega (arith, length-take c.loop-i.i c.args.members.now)) c.of-ahead.ensures (c.in-None.ensures.unsure refl)

pub returns-then-not-accepted-clause-none : goal.returns-then-not-accepted-clause-none
returns-then-not-accepted-clause-none c = λ none.
    let m = c.args.memory.now.contents in
    let group = c.args.group.now in
    refused-next (after m group) c.args.members.now c.loop-i.i _ c.in-Some.accepted c.loop-i-test.true
    c.loop-i.invariant.accepted (behind-found m group c.of-ahead.result (take c.loop-i.i c.args.members.now) _ _
    c.of-ahead.ensures c.in-Some.ensures.found) c.if-not-accepted.true

pub returns-clause-begins : goal.returns-clause-begins
returns-clause-begins c = all-behind c.args.memory.now.contents c.args.group.now _ c.args.members.now _ refl
