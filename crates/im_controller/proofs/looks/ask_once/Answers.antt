use Rattle.std.proofs.Common.{◌≡◌, Ok, Err, rules}
use Rattle.{im_types.specs.Types.Stalled, im_queue.specs.declared.Ask.TheVariants.Go}
use Rattle.im_controller.proofs.SeenLemmas.{sees-more}
use Rattle.im_controller.proofs.WaitLemmas.{err-waits, finds-told, go-stalled, go-waits, looks-stalls, other-stalled}
use Rattle.im_controller.proofs.WaitLemmas.{stall-waits}
use Rattle.im_controller.proofs.looks.ask_once.Goals as goal

pub returns-in-Ok-Go-clause-told : goal.returns-in-Ok-Go-clause-told
returns-in-Ok-Go-clause-told g c =
    let begins = rw c.in-Ok-Go.field-0-is at c.in-Ok-Go.ensures.begins in
    finds-told g.K.Name.origin.marks c.args.shared.now c.begin_wait.new.shared c.find_seen.new.shared c.args.element c.args.number c.args.tally.now c.find_seen.new.tally c.find_seen.result c.find_seen.ensures.looks
    (Ok Go) begins go-waits go-stalled

pub returns-else-eq-clause-told : goal.returns-else-eq-clause-told
returns-else-eq-clause-told g c =
    finds-told g.K.Name.origin.marks c.args.shared.now c.begin_wait.new.shared c.find_seen-in-Err.new.shared c.args.element c.args.number c.args.tally.now c.find_seen-in-Err.new.tally c.find_seen-in-Err.result c.find_seen-in-Err.ensures.looks
    (Err c.in-Err.refusal) c.in-Err.ensures.begins (err-waits c.in-Err.refusal)
    (other-stalled c.in-Err.refusal (λ same. let e = c.eq.ensures in let f = c.if-eq.false in search rules))

pub returns-then-eq-clause-order : goal.returns-then-eq-clause-order
returns-then-eq-clause-order g c =
    let is : c.in-Err.refusal ≡ Stalled = let e = c.eq.ensures in let f = c.if-eq.true in search rules in
    sees-more c.args.seen.now c.see_all.new.seen c.args.element c.args.number c.in-Err.refusal is c.see_all.ensures.known

pub returns-then-eq-clause-stalls : goal.returns-then-eq-clause-stalls
returns-then-eq-clause-stalls g c =
    stall-waits g.K.Name.origin.memory c.see_all.new.seen c.args.shared.now c.begin_wait.new.shared c.args.element
    c.args.number c.in-Err.refusal c.in-Err.ensures.begins c.see_all.ensures.end

pub returns-in-Ok-Go-clause-stalls : goal.returns-in-Ok-Go-clause-stalls
returns-in-Ok-Go-clause-stalls g c =
    looks-stalls g.K.Name.origin.memory c.find_seen.new.seen c.begin_wait.new.shared c.args.element c.args.number
    g.K.Name.origin.marks c.find_seen.new.shared c.args.tally.now c.find_seen.new.tally c.find_seen.ensures.end
    c.find_seen.result c.find_seen.ensures.looks

pub returns-else-eq-clause-stalls : goal.returns-else-eq-clause-stalls
returns-else-eq-clause-stalls g c =
    looks-stalls g.K.Name.origin.memory c.find_seen-in-Err.new.seen c.begin_wait.new.shared c.args.element
    c.args.number g.K.Name.origin.marks c.find_seen-in-Err.new.shared c.args.tally.now c.find_seen-in-Err.new.tally
    c.find_seen-in-Err.ensures.end c.find_seen-in-Err.result c.find_seen-in-Err.ensures.looks
