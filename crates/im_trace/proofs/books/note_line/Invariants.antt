abbrev pub ghost-note : Rattle.im_trace.proofs.books.note_line.Given.ghost-note
ghost-note g a = g.plus
