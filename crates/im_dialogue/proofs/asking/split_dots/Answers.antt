use Rattle.std.proofs.Common.{◌==◌, rules}
use Rattle.std.proofs.lemmas.Iterator.{Consumers.map_from_collect, Splits.YieldsList-from_slice_split}
use borrow.Author.Tests.{tests}

pub returns : Rattle.im_dialogue.proofs.asking.split_dots.Goals.returns
returns c = map_from_collect _ c.collect.ensures.ran
    (YieldsList-from_slice_split _ (λ b. b == 46) c.args.word.now (search rules) (search rules)
    c.split.ensures.closure (λ x b q k. search (rules, tests)))
