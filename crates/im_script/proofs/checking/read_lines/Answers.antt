use Rattle.std.proofs.Common.{◌≡◌, ◌+◌, Some, None, Err, sym, refl, ap, arith, rules}
use Rattle.im_script.proofs.ScriptLemmas.{few_left, line_follows, line_here, line_inside, lines_behind, lines_here}
use Rattle.im_script.proofs.ScriptLemmas.{none_left, passes_bad, passes_first, passes_size, script_is}
use Rattle.im_script.specs.Script.{Draft, draft_of, lines_of}
use Rattle.im_script.proofs.checking.read_lines.Goals as goal

first : goal.returns-in_err-hear-clause-first
first c =
    let all = lines_of c.args.text.now in
    let n = c.loop-rest.number in
    let line = c.cut_line.result.0.now in
    let here = lines_here all n c.loop-rest.rest c.in-Some.left line c.cut_line.result.1 c.loop-rest.invariant.left
    c.in-Some.is c.cut_line.ensures.lines in
    let was : c.hear.result ≡ Err c.in_err-hear.field-0.0 = first_of (cc, search rules, grind arith) in
    let now : c.from_residual.result ≡ Err c.in_err-hear.field-0.0 = first_of (cc, search rules, grind arith) in
    passes_first c.args.glances c.args.text.now (draft_of c.loop-rest.reader) n _ line _ _ _
    (line_inside all n line _ here) (line_here all n line _ here) c.loop-rest.invariant.said refl was now
    c.hear.ensures.bad

size : goal.returns-in_err-hear-clause-size
size c =
    let was : c.hear.result ≡ Err c.in_err-hear.field-0.0 = first_of (cc, search rules, grind arith) in
    let now : c.from_residual.result ≡ Err c.in_err-hear.field-0.0 = first_of (cc, search rules, grind arith) in
    passes_size c.args.glances _ _ _ was now c.hear.ensures.size

pub returns-in_err-hear-clause-size : goal.returns-in_err-hear-clause-size
returns-in_err-hear-clause-size c = size c

pub returns-in_err-hear-clause-first : goal.returns-in_err-hear-clause-first
returns-in_err-hear-clause-first c = first c

pub returns-in_err-hear-clause-bad : goal.returns-in_err-hear-clause-bad
returns-in_err-hear-clause-bad c = passes_bad c.args.glances c.args.text.now _ c.requires.few (size c) (first c)

pub loop-rest-init : goal.loop-rest-init
loop-rest-init c = record {
  left = refl;
  said = ap (λ (d : Draft). Some d) (sym c.new-reader.ensures);
  few = omega arith;
}

pub loop-rest-preserved : goal.loop-rest-preserved
loop-rest-preserved c =
    let all = lines_of c.args.text.now in
    let n = c.loop-rest.number in
    let line = c.cut_line.result.0.now in
    let here = lines_here all n c.loop-rest.rest c.in-Some.left line c.cut_line.result.1 c.loop-rest.invariant.left
    c.in-Some.is c.cut_line.ensures.lines in
    record {
      left = lines_behind all n line _ here;
      said = line_follows c.args.glances (draft_of c.loop-rest.reader) (draft_of c.hear.new.self)
          c.in_ok-hear.field-0 all n (n + 1) line (line_inside all n line _ here) (line_here all n line _ here) refl
          c.loop-rest.invariant.said c.in_ok-hear.ensures.ok;
      few = few_left n c.args.text.now c.loop-rest.rest c.in-Some.left c.cut_line.result.1 c.in-Some.is
          c.cut_line.ensures.smaller c.loop-rest.invariant.few;
    }

pub returns-clause-ok : goal.returns-clause-ok
returns-clause-ok c =
    let none : c.loop-rest.rest ≡ None = first_of (search rules, cc, grind arith) in
    script_is c.args.glances c.args.text.now (draft_of c.loop-rest.reader) c.loop-rest.number c.requires.few
    (none_left (lines_of c.args.text.now) c.loop-rest.number c.loop-rest.rest none c.loop-rest.invariant.left)
    c.loop-rest.invariant.said
