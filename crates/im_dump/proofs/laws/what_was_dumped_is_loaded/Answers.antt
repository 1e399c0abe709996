use Rattle.im_dump.proofs.DumpingLemmas.{loaded}

pub returns : Rattle.im_dump.proofs.laws.what_was_dumped_is_loaded.Goals.returns
returns c = λ file text l it is.
    loaded file text l (λ t d n s k m p q e. c.one_memory_has_a_dump.ensures t s d k n m p q e) it is
