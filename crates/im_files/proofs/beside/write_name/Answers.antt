use Rattle.im_files.proofs.NameLemmas.{of_run}

pub returns : Rattle.im_files.proofs.beside.write_name.Goals.returns
returns g c = record { standing = of_run _ _ _ _ _ c.in_ok-read_exact.ensures.bytes c.in_ok-write_all.ensures.bytes }
