use Rattle.im_meaning.proofs.Meanings.{opened_image}

pub returns : Rattle.im_meaning.proofs.open_header_is_in_force.Goals.returns
returns c = λ l h next file written t but opened.
    opened_image l h next t.shown t.after t.commands t.room t.k file written t.image t.some t.follows t.prepared but
    t.count t.boundary opened
