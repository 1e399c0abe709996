-- The name of the pane: its book.

abbrev pub ghosts-run_named : Rattle.im_bench_threads.proofs.readings.run.Given.ghosts-run_named
ghosts-run_named g a = record { book = a.pane.book }
