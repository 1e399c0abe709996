use Rattle.im_meaning.proofs.Writes.{write_in_other_area}

pub returns : Rattle.im_meaning.proofs.other_area_is_not_read.Goals.returns
returns c = λ l h file next at n but some lie shown commands room it.
    write_in_other_area l h shown commands room file next at n it but some lie.from lie.to
