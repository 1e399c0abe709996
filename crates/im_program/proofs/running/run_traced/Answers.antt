pub returns-in-Ok-clause-ran : Rattle.im_program.proofs.running.run_traced.Goals.returns-in-Ok-clause-ran
returns-in-Ok-clause-ran g c = λ honest.
    (c.in-Ok.trace, rw c.parts-input.ensures.input at c.in-Ok.ensures.ran)
