use Rattle.std.proofs.{Common.ap, Common.◌∙◌, Common.arith, Math.Seq.map-set_same}
use Rattle.{im_types.specs.Types.Waiter, im_text.specs.Said.who_of}
use Rattle.im_serial.proofs.NotedLemmas.{entered_past, entered_set, entered_who}
use Rattle.im_serial.specs.Noted.{with_entry}
use Rattle.im_serial.proofs.waits.set_entry.Goals as goal

pub returns-then-at-waited-clause-names : goal.returns-then-at-waited-clause-names
returns-then-at-waited-clause-names c =
    let who : Waiter = record { element = c.args.who.0; number = c.args.who.1 } in
    map-set_same who_of c.args.waited.now c.args.at _ _ (entered_who who c.args.entry _ _
    (c.new.ensures ∙ c.with_entry-kept.ensures ∙ ap (with_entry who c.args.entry) c.read.ensures))

pub returns-then-at-waited-clause-sets : goal.returns-then-at-waited-clause-sets
returns-then-at-waited-clause-sets c =
    let who : Waiter = record { element = c.args.who.0; number = c.args.who.1 } in
    entered_set c.args.waited.now c.args.at who c.args.entry _ _ (omega arith)
    (c.new.ensures ∙ c.with_entry-kept.ensures ∙ ap (with_entry who c.args.entry) c.read.ensures)

pub returns-else-at-waited-clause-sets : goal.returns-else-at-waited-clause-sets
returns-else-at-waited-clause-sets c = entered_past c.args.waited.now c.args.at (record {
  element = c.args.who.0;
  number = c.args.who.1;
}) c.args.entry (omega arith)
