use Rattle.im_meaning.proofs.Meanings.{one_of_two}

pub returns : Rattle.im_meaning.proofs.next_header_takes_over.Goals.returns
returns c = λ l h next file written t but.
    one_of_two l h next t.shown t.after t.commands t.room t.k file written t.image t.some t.follows t.prepared but
    t.count t.boundary
