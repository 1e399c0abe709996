use Rattle.std.proofs.Common.{ℕ, false, List, [], ◌++◌, sym, refl, ap, ◌∙◌, append-nil}
use Rattle.im_script.specs.Places.{action_op}
use Rattle.im_serial.proofs.ScriptedLemmas.{asked_ends, asked_serves, served_with, unserved}
use Rattle.im_serial.proofs.server.Server.serve_line.Goals as goal

pub returns-in_default : goal.returns-in_default
returns-in_default g c = record { served = unserved _ _ _ _ _ }

pub returns-in-Ok : goal.returns-in-Ok
returns-in-Ok g c =
    let bases = c.args.self.now.bases.items in
    let asks = ap (λ (b : List ℕ). action_op b c.args.line.action) (sym c.as_slice.ensures.value) ∙ sym c.op.ensures ∙ c.in-Some.is in
    record {
      served = served_with _ _ bases (bases ++ []) _ _ _ (c.request.ensures.bases ∙ sym (append-nil bases)) (asked_serves _ (record { element = c.args.line.element; action = c.args.line.action; named = false }) bases [] c.in-Some.op _ _ _ asks refl c.in-Ok.ensures.serves);
    }

pub returns-in-Err : goal.returns-in-Err
returns-in-Err g c =
    let asks = ap (λ (b : List ℕ). action_op b c.args.line.action) (sym c.as_slice.ensures.value) ∙ sym c.op.ensures ∙ c.in-Some.is in
    record { served = asked_ends _ (record { element = c.args.line.element; action = c.args.line.action; named = false }) _ _ c.in-Some.op _ _ _ asks c.in-Err.ensures.serves }
