use Rattle.std.proofs.Common.{◌≡◌, [], is_some, None, sym, refl, ap, ◌∙◌, arith, rules}
use Rattle.std.specs.Option.{option_map_or}
use Rattle.im_script.proofs.WordLemmas.{left_plain, next_words, none_plain, none_words}
use Rattle.im_script.specs.Grammar.{texts, words_of}
use Rattle.im_script.proofs.grammar.put_first_words.Goals as goal

pub returns-in_err-part-clause-plain : goal.returns-in_err-part-clause-plain
returns-in_err-part-clause-plain c =
    ap is_some c.from_residual.ensures ∙ sym (left_plain _ _ c.args.line.now c.in-Some.is c.loop-rest.invariant.plain
    ∙ c.in_err-part.ensures.plain)

pub loop-rest-init : goal.loop-rest-init
loop-rest-init c = rw c.requires.empty (record { plain = refl; words = refl })

pub loop-rest-preserved : goal.loop-rest-preserved
loop-rest-preserved c = record {
  plain = sym (left_plain _ _ c.args.line.now c.in-Some.is c.loop-rest.invariant.plain
      ∙ c.in_ok-part.ensures.plain);
  words = next_words c.loop-rest.rest c.in-Some.text (texts c.loop-rest.words.items)
      (texts c.keep_word.new.words.items) c.args.line.now c.in_ok-part.part.now
      (option_map_or (λ rest. words_of rest.now) c.in_ok-part.behind []) c.in-Some.is c.loop-rest.invariant.words
      c.in_ok-part.ensures.words
      (c.keep_word.ensures (option_map_or (λ rest. words_of rest.now) c.in_ok-part.behind []));
}

pub returns-clause-plain : goal.returns-clause-plain
returns-clause-plain c =
    let none : c.loop-rest.rest ≡ None = first_of (search rules, cc, grind arith) in
    none_plain c.loop-rest.rest c.args.line.now none c.loop-rest.invariant.plain

pub returns-clause-words : goal.returns-clause-words
returns-clause-words c =
    let none : c.loop-rest.rest ≡ None = first_of (search rules, cc, grind arith) in
    none_words c.loop-rest.rest (texts c.loop-rest.words.items) c.args.line.now none c.loop-rest.invariant.words
