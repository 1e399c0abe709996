use Rattle.std.proofs.Common.{ℕ, ◌+◌, false, List, ◌++◌, length, take, drop, sym, ap, ◌∙◌, subst}
use Rattle.im_disk.specs.Moment.{written}
use Rattle.im_listed.{proofs.StepLemmas.agrees_more, specs.History.history_of, specs.History.later}
use Rattle.im_listed.specs.{declared.calls.ListedCall.ListedCall, Listing.Agrees, Listing.Puts}

pub invariant_of-self-2 : Rattle.im_listed.proofs.listed.ListedDisk.write_at.Goals.invariant_of-self-2
invariant_of-self-2 c =
    let at = c.args.at in
    let part = c.args.bytes.now in
    let h = history_of c.self.inside.calls in
    subst (λ (es : List ListedCall). Agrees c.put.new.bytes.items c.add_write.new.steps.items false (history_of es))
    (sym c.note.ensures)
    (subst (λ (bytes : List ℕ). Agrees c.put.new.bytes.items c.add_write.new.steps.items false
    (later (written at bytes h.now) h)) (sym c.in-Ok.ensures.bytes)
    (agrees_more c.self.inside.bytes.items c.put.new.bytes.items c.self.inside.steps.items c.add_write.new.steps.items
    c.self.inside.calm h (Puts at part) c.self.invariant
    c.in-Ok.ensures.ok
    (c.put.ensures ∙ ap (λ (l : List ℕ). take at l ++ part ++ drop (at + length part) l) c.self.invariant.same)))
