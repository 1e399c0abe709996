use Rattle.std.proofs.Common.{◌-◌, length}
use Rattle.im_pages.proofs.BitLemmas.{Looks}
use Rattle.im_pages.proofs.words.first_set.Given as goal

abbrev pub invariant-loop-word : goal.invariant-loop-word
invariant-loop-word l = Looks l.words l.from l.at l.word

abbrev pub decreases-loop-word : goal.decreases-loop-word
decreases-loop-word l = length l.words - l.at
