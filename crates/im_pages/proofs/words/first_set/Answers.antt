use Rattle.std.proofs.Common.{◌≡◌, ◌+◌, ◌*◌, ◌/◌, length, subst, arith}
use Rattle.im_pages.proofs.BitLemmas.{found, Looks, looks, looks_on, passes}
use Rattle.im_pages.specs.Words.{AreClear}
use Rattle.im_pages.proofs.words.first_set.Goals as goal

pub loop-word-init : goal.loop-word-init
loop-word-init c = looks c.args.words.now c.args.from c.requires.inside
    (omega (arith, c.type_inv.words (c.args.from / 64)))

pub returns-then-at-words : goal.returns-then-at-words
returns-then-at-words c =
    let none : c.loop-word.word ≡ 0 = c.loop-word-test.true in
    let end : 64 * (c.loop-word.at + 1) ≡ 64 * length c.args.words.now = omega arith in
    subst (AreClear c.args.words.now c.args.from) end
    (passes c.args.words.now c.args.from c.loop-word.at
    (subst (Looks c.args.words.now c.args.from c.loop-word.at) none c.loop-word.invariant))

pub loop-word-preserved : goal.loop-word-preserved
loop-word-preserved c =
    let none : c.loop-word.word ≡ 0 = c.loop-word-test.true in
    looks_on c.args.words.now c.args.from c.loop-word.at
    (subst (Looks c.args.words.now c.args.from c.loop-word.at) none c.loop-word.invariant) (omega arith)
    (omega (arith, c.type_inv.words (c.loop-word.at + 1)))

pub returns : goal.returns
returns c = found c.args.words.now c.args.from c.loop-word.at c.loop-word.word c.loop-word.invariant c.loop-word-test.false
