abbrev pub ghosts-opened : Rattle.im_glass.proofs.unnamed.open.Given.ghosts-opened
ghosts-opened g a = record { book = a.book }
