use Rattle.std.proofs.Common.{inl}
use Rattle.{im_types.specs.Types.ring_of, im_journal.proofs.Tails.boundaries_elsewhere}

pub returns : Rattle.im_meaning.proofs.boundaries_are_of_the_journal.Goals.returns
returns c = λ l h file written at n but some low. boundaries_elsewhere
    (ring_of l h.sizes) h.count at n file written some (inl low) but
