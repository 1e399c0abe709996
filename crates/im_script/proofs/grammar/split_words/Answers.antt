use Rattle.std.proofs.Common.{not, length, ◌==◌, rules}
use Rattle.std.proofs.lemmas.Iterator.Consumers.{map_from_collect, YieldsList-from_filter}
use Rattle.std.proofs.lemmas.Iterator.Splits.{YieldsList-from_slice_split}
use borrow.Author.Tests.{tests}

pub returns : Rattle.im_script.proofs.grammar.split_words.Goals.returns
returns c = map_from_collect _ c.collect.ensures.ran (YieldsList-from_filter _ (λ w. not (length w == 0))
    (YieldsList-from_slice_split _ (λ b. b == 32) c.args.line.now (search rules)
    (search rules) c.split.ensures.closure (λ x b q k. search (rules, tests)))
    c.filter.ensures.closure (λ x b q k. search (rules, tests)))
