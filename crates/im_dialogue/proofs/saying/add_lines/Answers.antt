use Rattle.std.proofs.Common.{ℕ, List, ◌++◌, map, string_bytes, sym, ap, ◌∙◌, subst, append_assoc, append-nil, arith}
use Rattle.std.proofs.Common.{rules}
use Rattle.im_dialogue.{proofs.ToldLemmas.lines_end, proofs.ToldLemmas.lines_next, specs.Together.AreLinesOf}
use Rattle.im_dialogue.proofs.saying.add_lines.Goals as goal

pub loop-one-init : goal.loop-one-init
loop-one-init c = λ rest it.
    subst (λ (l : List ℕ). AreLinesOf c.args.told.now (map string_bytes c.args.nows.now) (l ++ rest))
    (sym c.requires.empty) it

pub loop-one-preserved : goal.loop-one-preserved
loop-one-preserved c = λ rest it.
    let line = c.in_ok-add_line.ensures in
    subst (λ (l : List ℕ). AreLinesOf c.args.told.now (map string_bytes c.args.nows.now) l)
    (sym (ap (λ (l : List ℕ). l ++ rest) line.1 ∙ append_assoc _ _ rest))
    (c.loop-one.invariant _
    (lines_next c.args.told.now c.loop-one.one-index _ c.args.memory.now.contents line.0 c.answer_of.result
    (map string_bytes c.loop-one.left.now) _ c.first_now.result.now rest c.loop-one-test.true c.later_nows-left.ensures
    c.first_now.ensures c.answer_of.ensures it))

pub returns : goal.returns
returns c = subst (λ (l : List ℕ). AreLinesOf c.args.told.now (map string_bytes c.args.nows.now) l)
    (append-nil _) (c.loop-one.invariant _ (lines_end c.args.told.now c.loop-one.one-index _ (search (rules, arith))))
