use Rattle.im_records.proofs.Joining.{area_of_pages}

pub returns : Rattle.im_records.proofs.laws.pages_are_an_area.Goals.returns
returns c = λ s r area fit long pages. area_of_pages s r fit area long pages
