use Rattle.im_program.proofs.running.run_task.Goals as goal

pub returns-then-once-clause-run : goal.returns-then-once-clause-run
returns-then-once-clause-run g c = rw c.if-once.true c.run_once_on.ensures.run

pub returns-then-planned-clause-run : goal.returns-then-planned-clause-run
returns-then-planned-clause-run g c = rw c.if-once.false (rw c.if-planned.true c.run_on_plan.ensures.run)

pub returns-clause-run : goal.returns-clause-run
returns-clause-run g c = rw c.if-once.false (rw c.if-planned.false c.run_on.ensures.run)
