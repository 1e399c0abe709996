use Rattle.std.proofs.Common.{[], ◌∙◌, subst}
use Rattle.{im_session.specs.Kept.SessionState, im_script.specs.Script.draft_of, im_script.specs.Script.lines_of}
use Rattle.im_serial.proofs.OnceLemmas.{breaks_here, line_breaks, line_makes, line_meets, line_names, makes_none}
use Rattle.im_serial.proofs.OnceLemmas.{makes_some, meets_none, meets_some, names_none, names_some}
use Rattle.im_serial.specs.{Asked.wanted_by, Asked.wanted_in, Asked.wanted_of, Once.MakesBlocks, Serving.seen_by}
use Rattle.im_serial.proofs.server.Server.meet_all.Goals as goal

pub returns-in-None : goal.returns-in-None
returns-in-None g c =
    let was = c.args.self.now in
    let old = seen_by was (g.W.Write.contents c.args.out.now)
    in
    let now = c.loop-number.self in
    let mid = seen_by now (g.W.Write.contents c.loop-number.out) in
    let first = c.args.past.now in
    let past = c.loop-number.past in
    let all = wanted_of c.args.script.now in
    record {
      session = c.loop-number.invariant.0;
      names = names_none (λ text. wanted_in (draft_of c.loop-number.reader) (lines_of text.now)) first.many.items
          past.many.items first.end past.end all was.bases.items now.bases.items c.loop-number.rest c.in-None.is
          c.loop-number.invariant.1.0;
      made = makes_none (λ text. wanted_in (draft_of c.loop-number.reader) (lines_of text.now))
          was.session.engine.memory
          first.many.items past.many.items all c.loop-number.rest c.in-None.is c.loop-number.invariant.1.1.0;
      passed = meets_none (λ text. wanted_in (draft_of c.loop-number.reader) (lines_of text.now)) first.many.items
          past.many.items all old mid c.loop-number.rest c.in-None.is c.loop-number.invariant.1.1.1;
    }

pub returns-in-Err : goal.returns-in-Err
returns-in-Err g c =
    let was = c.args.self.now in
    let old = seen_by was (g.W.Write.contents c.args.out.now)
    in
    let now = c.loop-number.self in
    let mid = seen_by now (g.W.Write.contents c.loop-number.out) in
    record {
      session = c.loop-number.invariant.0;
      names = tt;
      made = tt;
      passed = breaks_here _ _ (wanted_of c.args.script.now) _ old mid c.loop-number.invariant.1.1.1;
    }

pub returns-in-Err-meet_said : goal.returns-in-Err-meet_said
returns-in-Err-meet_said g c =
    let was = c.args.self.now in
    let old = seen_by was (g.W.Write.contents c.args.out.now)
    in
    let now = c.loop-number.self in
    let mid = seen_by now (g.W.Write.contents c.loop-number.out) in
    let s = c.meet_said.new.self in
    let new = seen_by s (g.W.Write.contents c.meet_said.new.out) in
    let first = c.args.past.now in
    let past = c.loop-number.past in
    let all = wanted_of c.args.script.now in
    let d = draft_of c.loop-number.reader in
    record {
      session = c.meet_said.ensures.session ∙ c.loop-number.invariant.0;
      names = tt;
      made = tt;
      passed = line_breaks all first.many.items past.many.items old mid d (draft_of c.hear.new.reader)
          c.in-Ok.said c.in-Some.text.now c.split_line.result.0.now c.split_line.result.1 c.split_line.ensures
          c.in-Ok.ensures.ok (meets_some (λ text. wanted_in d (lines_of text.now)) first.many.items past.many.items
          all old mid
          c.loop-number.rest c.in-Some.text c.in-Some.is
          c.loop-number.invariant.1.1.1) new c.in-Err-meet_said.ensures.passed;
    }

pub loop-number-preserved : goal.loop-number-preserved
loop-number-preserved g c =
    let was = c.args.self.now in
    let old = seen_by was (g.W.Write.contents c.args.out.now)
    in
    let now = c.loop-number.self in
    let mid = seen_by now (g.W.Write.contents c.loop-number.out) in
    let s = c.meet_said.new.self in
    let new = seen_by s (g.W.Write.contents c.meet_said.new.out) in
    let first = c.args.past.now in
    let past = c.loop-number.past in
    let all = wanted_of c.args.script.now in
    let d = draft_of c.loop-number.reader in (
      c.meet_said.ensures.session ∙ c.loop-number.invariant.0,
      (
        line_names all first.many.items past.many.items old mid d (draft_of c.hear.new.reader)
            c.in-Ok.said c.in-Some.text.now c.split_line.result.0.now c.split_line.result.1 c.split_line.ensures
            c.in-Ok.ensures.ok first.end past.end was.bases.items now.bases.items (names_some (λ text. wanted_in d
            (lines_of text.now)) first.many.items past.many.items
            first.end past.end all was.bases.items now.bases.items c.loop-number.rest c.in-Some.text
            c.in-Some.is c.loop-number.invariant.1.0) c.meet_said.new.past.many.items c.meet_said.new.past.end
            s.bases.items c.in-Ok-meet_said.ensures.names,
        (
          line_makes was.session.engine.memory all first.many.items past.many.items d (draft_of c.hear.new.reader)
              c.in-Ok.said c.in-Some.text.now c.split_line.result.0.now c.split_line.result.1 c.split_line.ensures
              c.in-Ok.ensures.ok (makes_some (λ text. wanted_in d (lines_of text.now)) was.session.engine.memory
              first.many.items past.many.items all c.loop-number.rest c.in-Some.text c.in-Some.is
              c.loop-number.invariant.1.1.0) c.meet_said.new.past.many.items
              (subst (λ (e : SessionState g.row.D.Denot). MakesBlocks e.engine.memory past.many.items
              (wanted_by c.in-Ok.said)
              c.meet_said.new.past.many.items []) c.loop-number.invariant.0 c.in-Ok-meet_said.ensures.made),
          line_meets all first.many.items past.many.items old mid d (draft_of c.hear.new.reader)
              c.in-Ok.said c.in-Some.text.now c.split_line.result.0.now c.split_line.result.1 c.split_line.ensures
              c.in-Ok.ensures.ok (meets_some (λ text. wanted_in d (lines_of text.now)) first.many.items past.many.items
              all old mid
              c.loop-number.rest c.in-Some.text c.in-Some.is c.loop-number.invariant.1.1.1)
              c.meet_said.new.past.many.items new
              c.in-Ok-meet_said.ensures.passed,
        ),
      ),
    )

pub returns : goal.returns
returns g c =
    let was = c.args.self.now in
    let old = seen_by was (g.W.Write.contents c.args.out.now)
    in
    let now = c.loop-number.self in
    let mid = seen_by now (g.W.Write.contents c.loop-number.out) in
    record {
      session = c.loop-number.invariant.0;
      names = tt;
      made = tt;
      passed = breaks_here _ _ (wanted_of c.args.script.now) _ old mid c.loop-number.invariant.1.1.1;
    }
