use Rattle.im_records.proofs.Unique.{one_area}

pub returns : Rattle.im_records.proofs.laws.areas_spell_one_list_of_records.Goals.returns
returns c = one_area
