use Rattle.std.proofs.Common.{[], ◌∷◌, count_by}

-- one, where the line is marked
abbrev pub ghost-note_line : Rattle.im_trace.proofs.books.Books.count.Given.ghost-note_line
ghost-note_line g a = count_by g.K.Name.origin.marks (a.line.now ∷ [])
