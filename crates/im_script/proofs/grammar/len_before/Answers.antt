use Rattle.std.proofs.Common.{◌≡◌, ◌==◌, position, arith, rules}
use Rattle.std.proofs.lemmas.Iterator.{Search.position_from_yields_List, YieldsList-from_slice}
use Rattle.im_script.proofs.PlaceLemmas.{position_found, position_missing}
use borrow.Author.Tests.{tests}
use Rattle.im_script.proofs.grammar.len_before.Goals as goal

pub returns-in-Some : goal.returns-in-Some
returns-in-Some c =
    let at : c.position.result
    ≡ position (λ byte. byte == c.args.mark) c.args.word.now = position_from_yields_List
    (λ byte. byte == c.args.mark) _ _ _ c.position.ensures.ran (YieldsList-from_slice c.args.word.now (search rules))
    (λ x b q k. search (rules, tests)) in
    let found = position_found (λ byte. byte == c.args.mark) c.args.word.now c.position.result c.in-Some.at at c.in-Some.is in
    record { len = found.0; within = found.1 }

pub returns-in-None : goal.returns-in-None
returns-in-None c =
    let at : c.position.result
    ≡ position (λ byte. byte == c.args.mark) c.args.word.now = position_from_yields_List
    (λ byte. byte == c.args.mark) _ _ _ c.position.ensures.ran (YieldsList-from_slice c.args.word.now (search rules))
    (λ x b q k. search (rules, tests)) in
    record {
      len = position_missing
          (λ byte. byte == c.args.mark) c.args.word.now c.position.result at c.in-None.is;
      within = omega arith;
    }
