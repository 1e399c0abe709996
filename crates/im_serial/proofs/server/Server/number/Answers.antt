use Rattle.std.proofs.Common.{ℕ}
use Rattle.im_types.specs.Types.{Refusal, WindowFull}
use Rattle.im_serial.proofs.PlaceLemmas.{next_bounds, place_then, placed}
use Rattle.im_serial.proofs.ScriptedLemmas.{unprepared}
use Rattle.im_serial.proofs.server.Server.number.Goals as goal

pub make_place-requires : goal.make_place-requires
make_place-requires g c =
    record { due = rw (c.in-Ok-Confirm.field-0-is, c.memory.ensures) at c.in-Ok-Confirm.ensures.found }

pub returns-in-Ok-Next-clause-goes : goal.returns-in-Ok-Next-clause-goes
returns-in-Ok-Next-clause-goes g c = placed Refusal c.in-Ok-Next.number c.args.self.now.session
    c.args.self.now.waited.items c.args.self.now.places.marks.items

pub returns-in-Ok-Next-clause-next : goal.returns-in-Ok-Next-clause-next
returns-in-Ok-Next-clause-next g c =
    next_bounds c.args.self.now.session.engine.memory c.args.element c.in-Ok-Next.number
    (rw (c.in-Ok-Next.field-0-is, c.memory.ensures) at c.in-Ok-Next.ensures.found)

pub returns-in-Ok-clause-goes : goal.returns-in-Ok-clause-goes
returns-in-Ok-clause-goes g c = let new = c.make_place.new.self in
    place_then c.next_number.result c.args.self.now.session new.session c.args.self.now.waited.items new.waited.items
    c.args.self.now.places.marks.items new.places.marks.items c.in-Ok.ensures.goes

pub returns-in-Ok-clause-next : goal.returns-in-Ok-clause-next
returns-in-Ok-clause-next g c = rw c.engine.ensures.state at c.next_number.ensures

pub returns-in-Ok-Full-clause-goes : goal.returns-in-Ok-Full-clause-goes
returns-in-Ok-Full-clause-goes g c = unprepared ℕ WindowFull c.args.self.now.session c.args.self.now.waited.items
    c.args.self.now.places.marks.items

pub returns-in-Err-clause-goes : goal.returns-in-Err-clause-goes
returns-in-Err-clause-goes g c = unprepared ℕ c.in-Err.refusal c.args.self.now.session c.args.self.now.waited.items
    c.args.self.now.places.marks.items
