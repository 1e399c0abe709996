pub returns-clause-run : Rattle.im_run.proofs.script.run_on_plan.Goals.returns-clause-run
returns-clause-run g c = c.run_script.ensures.run
