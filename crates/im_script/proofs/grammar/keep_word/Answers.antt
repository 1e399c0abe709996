use Rattle.std.proofs.Common.{◌≡◌, true, length, ◌==◌, arith, rules}
use Rattle.im_script.{proofs.WordLemmas.are_five, proofs.WordLemmas.keeps_five, specs.Grammar.texts}

pub returns-then-is_full : Rattle.im_script.proofs.grammar.keep_word.Goals.returns-then-is_full
returns-then-is_full c =
    let full : (length c.args.words.now.items == 5) ≡ true = first_of (search rules, cc, grind arith) in
    λ more. keeps_five (texts c.args.words.now.items) more _ (are_five c.args.words.now.items full)
