-- The bytes that standard input has.

abbrev pub ghosts-work_on : Rattle.imem.proofs.start.Given.ghosts-work_on
ghosts-work_on g a = record { whole = g.I.Read.remaining a.input }
