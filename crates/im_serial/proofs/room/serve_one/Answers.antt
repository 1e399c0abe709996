use Rattle.im_session.proofs.ServedLemmas.{rests_refused}
use Rattle.im_serial.proofs.ServingLemmas.{one_refused, one_served}
use Rattle.im_serial.proofs.room.serve_one.Goals as goal

pub returns-in-Ok-clause-served : goal.returns-in-Ok-clause-served
returns-in-Ok-clause-served g c =
    one_served c.args.session.now c.make_room.new.self c.serve_kept.new.self c.args.command.now c.serve_kept.result
    c.make_room.ensures.same c.serve_kept.ensures.answered c.serve_kept.ensures.put

pub returns-in-Ok-clause-refused : goal.returns-in-Ok-clause-refused
returns-in-Ok-clause-refused g c =
    one_refused c.args.session.now c.make_room.new.self c.serve_kept.new.self c.args.command.now c.serve_kept.result
    c.make_room.ensures.same c.serve_kept.ensures.answered c.serve_kept.ensures.put

pub returns-in-Err-clause-refused : goal.returns-in-Err-clause-refused
returns-in-Err-clause-refused g c =
    rests_refused c.args.session.now c.make_room.new.self c.args.command.now c.make_room.ensures.same
