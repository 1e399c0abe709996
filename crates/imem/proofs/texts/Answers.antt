use Rattle.std.proofs.Common.{string_bytes, rules, tests}
use Rattle.std.proofs.lemmas.Iterator.{Consumers.map_from_collect, YieldsList-from_map_by, YieldsList-from_slice}

pub returns : Rattle.imem.proofs.texts.Goals.returns
returns c = map_from_collect _ c.collect.ensures.ran (YieldsList-from_map_by _ (λ r. r.now) string_bytes
    (YieldsList-from_slice c.args.words.now cc) c.map.ensures.closure (λ x r q k. search (rules, tests)))
