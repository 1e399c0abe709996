use Rattle.std.proofs.Common.{◌≡◌, ◌++◌, OnOk, string_bytes, sym, ap, ◌∙◌, subst}
use Rattle.im_types.specs.Types.{Command, Call, Confirm, Commands}
use Rattle.im_run.specs.Traced.{call_members}

pub returns-in-Command-Confirm : Rattle.im_run.proofs.wording.add_call_members.Goals.returns-in-Command-Confirm
returns-in-Command-Confirm c =
    let it = c.in-Command-Confirm in
    let command : it.field-0 ≡ Confirm it.element it.upto = rw it.is at it.field-0-is in
    let call : c.args.call ≡ Commands (Confirm it.element it.upto) = it.is ∙ ap (λ (x : Command). Commands x) command in
    subst (λ (x : Call). OnOk c.add_start.result (string_bytes c.add_start.new.text ≡ string_bytes c.args.text.now
    ++ call_members x)) (sym call) c.add_start.ensures
