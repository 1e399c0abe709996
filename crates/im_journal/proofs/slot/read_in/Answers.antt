use Rattle.std.proofs.Common.{◌≡◌, Some, sym, ◌∙◌}
use Rattle.im_types.specs.Types.{read_in}
use Rattle.im_journal.proofs.Spelling.{read_in-compared, read_in-none, read_in-only}
use Rattle.im_journal.proofs.slot.read_in.Goals as goal

pub returns-in_err-command-clause-found : goal.returns-in_err-command-clause-found
returns-in_err-command-clause-found c = c.from_residual.ensures
    ∙ sym (read_in-none c.args.group c.args.slot.now (sym c.command_in.ensures ∙ c.in_err-command.was))

pub returns-then-eq-clause-found : goal.returns-then-eq-clause-found
returns-then-eq-clause-found c = read_in-compared c.args.group c.args.slot.now c.spell_in.new.slot c.sequence_in.result c.in_ok-command.command _ c.told-slot (sym c.command_in.ensures ∙ c.in_ok-command.was) c.sequence_in.ensures c.spell_in.ensures.bytes c.if-eq.ensures

pub returns-then-eq-clause-spelled : goal.returns-then-eq-clause-spelled
returns-then-eq-clause-spelled c =
    let reads : Some c.in_ok-command.command
    ≡ read_in c.args.group c.args.slot.now = read_in-compared c.args.group c.args.slot.now c.spell_in.new.slot c.sequence_in.result c.in_ok-command.command _ c.told-slot (sym c.command_in.ensures ∙ c.in_ok-command.was) c.sequence_in.ensures c.spell_in.ensures.bytes c.if-eq.ensures in
    (read_in-only c.args.group c.args.slot.now c.in_ok-command.command (sym reads)).bytes

pub returns-else-eq-clause-found : goal.returns-else-eq-clause-found
returns-else-eq-clause-found c = read_in-compared c.args.group c.args.slot.now c.spell_in.new.slot c.sequence_in.result c.in_ok-command.command _ c.told-slot (sym c.command_in.ensures ∙ c.in_ok-command.was) c.sequence_in.ensures c.spell_in.ensures.bytes c.if-eq.ensures
