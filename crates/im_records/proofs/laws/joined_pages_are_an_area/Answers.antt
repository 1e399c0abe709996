use Rattle.im_records.proofs.Joining.{joined_is_area}

pub returns : Rattle.im_records.proofs.laws.joined_pages_are_an_area.Goals.returns
returns c = joined_is_area
