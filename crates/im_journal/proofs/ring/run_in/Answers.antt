use Rattle.std.proofs.Common.{◌≡◌, ℕ, ◌+◌, ◌-◌, ◌≤◌, true, false, List, [], ◌∷◌, ◌++◌, Some, None, Option, sym, ap, ◌∙◌}
use Rattle.std.proofs.Common.{append-nil, arith, rules}
use Rattle.im_types.specs.Types.{Command, LAST, run_from, member, due_after, commands_in, slot, continues}
use Rattle.im_journal.proofs.Reading.{behind_these, commands_bad, commands_end, commands_more, last_after}
use Rattle.im_journal.proofs.ring.run_in.Goals.{else-due-eq0, then-due-eq0+else-not-continues}
use Rattle.im_journal.specs.Holding.{ring_alone}
use Rattle.im_journal.proofs.ring.run_in.Goals as goal

pub returns-then-not-continues-clause-commands : goal.returns-then-not-continues-clause-commands
returns-then-not-continues-clause-commands c =
    let shut : continues (slot (ring_alone c.args.slots) (c.args.first + c.loop-i.i) c.args.ring.now)
    (c.args.first + c.loop-i.i) ≡ false =
    ap (λ (l : List ℕ). continues l (c.args.first + c.loop-i.i)) (sym c.slot_in-slot.ensures)
    ∙ sym c.continues.ensures ∙ c.if-not-continues.true in
    c.loop-i.invariant.so_far
    ∙ ap (λ (o : Option (List Command)). behind_these c.loop-i.commands.items o)
    (commands_end (ring_alone c.args.slots) c.args.ring.now c.args.slots c.loop-i.i c.args.first c.loop-i-test.true c.loop-i.due c.if-due-eq0.true shut)
    ∙ ap (λ (l : List Command). Some l) (append-nil c.loop-i.commands.items)

pub returns-in_default-clause-bad : goal.returns-in_default-clause-bad
returns-in_default-clause-bad c = λ e.
    let goes : c.loop-i.due ≡ 0
    → continues (slot (ring_alone c.args.slots) (c.args.first + c.loop-i.i) c.args.ring.now)
    (c.args.first + c.loop-i.i) ≡ true =
    elim c.if-due-eq0.branch [
      | then-due-eq0+else-not-continues w ↦ λ none. ap (λ (l : List ℕ). continues l (c.args.first + c.loop-i.i))
          (sym c.slot_in-slot.ensures) ∙ sym w.continues.ensures ∙ w.if-not-continues.false
      | else-due-eq0 w ↦ λ none. absurd (w.if-due-eq0.false none)
    ] in
    let none : member c.loop-i.due (c.args.first + c.loop-i.i)
    (slot (ring_alone c.args.slots) (c.args.first + c.loop-i.i) c.args.ring.now) ≡ None =
    ap (λ (l : List ℕ). member c.loop-i.due (c.args.first + c.loop-i.i) l) (sym c.slot_in-slot.ensures)
    ∙ sym c.member.ensures ∙ c.in_default.is in
    c.loop-i.invariant.so_far
    ∙ ap (λ (o : Option (List Command)). behind_these c.loop-i.commands.items o)
    (commands_bad (ring_alone c.args.slots) c.args.ring.now c.args.slots c.loop-i.i c.args.first c.loop-i-test.true c.loop-i.due goes none)

pub loop-i-preserved : goal.loop-i-preserved
loop-i-preserved c =
    let goes : c.loop-i.due ≡ 0
    → continues (slot (ring_alone c.args.slots) (c.args.first + c.loop-i.i) c.args.ring.now)
    (c.args.first + c.loop-i.i) ≡ true =
    elim c.if-due-eq0.branch [
      | then-due-eq0+else-not-continues w ↦ λ none. ap (λ (l : List ℕ). continues l (c.args.first + c.loop-i.i))
          (sym c.slot_in-slot.ensures) ∙ sym w.continues.ensures ∙ w.if-not-continues.false
      | else-due-eq0 w ↦ λ none. absurd (w.if-due-eq0.false none)
    ] in
    let there : member c.loop-i.due (c.args.first + c.loop-i.i) c.slot_in-slot.result
    ≡ Some c.in-Some.command = sym c.member.ensures ∙ c.in-Some.is in
    let found : member c.loop-i.due (c.args.first + c.loop-i.i)
    (slot (ring_alone c.args.slots) (c.args.first + c.loop-i.i) c.args.ring.now) ≡ Some c.in-Some.command =
    ap (λ (l : List ℕ). member c.loop-i.due (c.args.first + c.loop-i.i) l) (sym c.slot_in-slot.ensures) ∙ there in
    let after : due_after c.loop-i.due (slot (ring_alone c.args.slots) (c.args.first + c.loop-i.i) c.args.ring.now)
    ≡ c.due_after-due.result =
    ap (λ (l : List ℕ). due_after c.loop-i.due l) (sym c.slot_in-slot.ensures) ∙ sym c.due_after-due.ensures in
    let low : c.args.first + c.loop-i.i + 1 + due_after c.loop-i.due c.slot_in-slot.result ≤ LAST = last_after c.loop-i.due (c.args.first + c.loop-i.i) c.slot_in-slot.result c.in-Some.command there c.loop-i.invariant.last in
    let pushed : c.push.new.self.items ≡ c.loop-i.commands.items ++ c.in-Some.command ∷ [] = search rules in
    record {
      few = search rules;
      last = omega (arith, low, c.due_after-due.ensures);
      so_far =
          c.loop-i.invariant.so_far
          ∙ commands_more
          (ring_alone c.args.slots) c.args.ring.now c.args.slots c.loop-i.i c.args.first c.loop-i-test.true c.loop-i.due c.in-Some.command c.loop-i.commands.items goes found
          ∙ ap (λ (due : ℕ). behind_these (c.loop-i.commands.items ++ c.in-Some.command ∷ [])
          (commands_in due (c.args.first + (c.loop-i.i + 1))
          (run_from (ring_alone c.args.slots) (c.args.slots - (c.loop-i.i + 1)) due
          (c.args.first + (c.loop-i.i + 1)) c.args.ring.now))) after
          ∙ ap (λ (l : List Command). behind_these l
          (commands_in c.due_after-due.result (c.args.first + (c.loop-i.i + 1))
          (run_from (ring_alone c.args.slots) (c.args.slots - (c.loop-i.i + 1)) c.due_after-due.result
          (c.args.first + (c.loop-i.i + 1)) c.args.ring.now))) (sym pushed);
    }
