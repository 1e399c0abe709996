use Rattle.std.proofs.Common.{◌≡◌, true, get_or, sym, ◌∙◌, arith, take_all, rules}
use Rattle.std.{proofs.lemmas.List.take_rest, specs.Char.is_ascii}
use Rattle.im_script.proofs.ScriptLemmas.{no_end}
use Rattle.im_script.proofs.WordLemmas.{plain_all, plain_cut, plain_more, words_cut, words_end}
use Rattle.im_script.proofs.grammar.cut_word.Goals as goal

pub returns-then-byte-eq32-clause-plain : goal.returns-then-byte-eq32-clause-plain
returns-then-byte-eq32-clause-plain c =
    rw take_rest (plain_cut _ _ c.loop-at-test.true c.if-byte-eq32.true c.loop-at.invariant.plain)

pub returns-then-byte-eq32-clause-words : goal.returns-then-byte-eq32-clause-words
returns-then-byte-eq32-clause-words c =
    rw take_rest (words_cut _ _ c.loop-at-test.true c.if-byte-eq32.true c.loop-at.invariant.none)

pub returns-clause-plain : goal.returns-clause-plain
returns-clause-plain c = plain_all _ _ c.loop-at-test.false c.loop-at.invariant.plain

pub returns-clause-words : goal.returns-clause-words
returns-clause-words c = words_end _ (rw (take_all _ _ c.loop-at-test.false) at c.loop-at.invariant.none)

pub loop-at-preserved : goal.loop-at-preserved
loop-at-preserved c =
    let ascii : is_ascii (get_or c.args.line.now c.loop-at.at 0) ≡ true = first_of (search rules, cc, grind arith) in
    record {
      none = no_end 32 _ _ c.loop-at-test.true c.if-byte-eq32.false c.loop-at.invariant.none;
      plain = sym (plain_more _ _ c.loop-at-test.true ascii) ∙ c.loop-at.invariant.plain;
    }

pub loop-at-preserved-then-stands_in_word : goal.loop-at-preserved-then-stands_in_word
loop-at-preserved-then-stands_in_word c =
    let is_so = c.if-stands_in_word.true in
    record {
      none = no_end 32 _ _ c.loop-at-test.true (c.stands_in_word.ensures.other is_so) c.loop-at.invariant.none;
      plain = sym (plain_more _ _ c.loop-at-test.true (c.stands_in_word.ensures.ascii is_so))
          ∙ c.loop-at.invariant.plain;
    }
