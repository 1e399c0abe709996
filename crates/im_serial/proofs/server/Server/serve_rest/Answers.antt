use Rattle.im_script.specs.Script.{draft_of, lines_of}
use Rattle.im_serial.proofs.OnceLemmas.{left_none, left_some, news_line, part_ends, part_serves}
use Rattle.im_serial.proofs.ScriptedLemmas.{ends_here, has_served}
use Rattle.im_serial.specs.{Asked.wanted_in, Had.news, Serving.seen_by, Serving.server_of}
use Rattle.im_serial.proofs.server.Server.serve_rest.Goals as goal

pub returns-in-None : goal.returns-in-None
returns-in-None g c = record {
  served = has_served _ _ _ _ _ _ (left_none (λ text. news c.loop-number.past.many.items (wanted_in
      (draft_of c.loop-number.reader) (lines_of text.now))) _ _ _ _ _ c.loop-number.rest c.in-None.is
      c.loop-number.invariant);
}

pub returns-in-Err : goal.returns-in-Err
returns-in-Err g c = record {
  served = record {
    serves = tt;
    ends = ends_here _ _ _ _ (seen_by c.args.self.now (g.W.Write.contents c.args.out.now)) (server_of
        c.loop-number.self.session (g.W.Write.contents c.loop-number.out) c.loop-number.self.lines
        c.loop-number.self.waited.items c.loop-number.self.places.marks.items) c.loop-number.invariant;
  };
}

pub returns-in-Err-serve_new : goal.returns-in-Err-serve_new
returns-in-Err-serve_new g c =
    let was = c.args.self.now in
    let old = seen_by was (g.W.Write.contents c.args.out.now)
    in
    let now = c.loop-number.self in
    let mid = seen_by now (g.W.Write.contents c.loop-number.out) in
    let s = c.serve_new.new.self in
    let new = seen_by s (g.W.Write.contents c.serve_new.new.out) in
    let d = draft_of c.loop-number.reader in
    let many = c.loop-number.past.many.items in
    let so_far = left_some (λ text. news many (wanted_in d (lines_of text.now))) _ _ _ old mid
    c.loop-number.rest c.in-Some.text c.in-Some.is c.loop-number.invariant in
    record {
      served = record {
        serves = tt;
        ends = part_ends _ _ _ _ (news_line many _ d (draft_of c.hear.new.reader) c.in-Ok.said
            c.in-Some.text.now c.split_line.result.0.now c.split_line.result.1 c.split_line.ensures c.in-Ok.ensures.ok
            c.serve_new.ensures.many) _ _ old mid so_far new c.in-Err-serve_new.ensures.served.ends;
      };
    }

pub loop-number-preserved : goal.loop-number-preserved
loop-number-preserved g c =
    let was = c.args.self.now in
    let old = seen_by was (g.W.Write.contents c.args.out.now)
    in
    let now = c.loop-number.self in
    let mid = seen_by now (g.W.Write.contents c.loop-number.out) in
    let s = c.serve_new.new.self in
    let new = seen_by s (g.W.Write.contents c.serve_new.new.out) in
    let d = draft_of c.loop-number.reader in
    let many = c.loop-number.past.many.items in
    let so_far = left_some (λ text. news many (wanted_in d (lines_of text.now))) _ _ _ old mid
    c.loop-number.rest c.in-Some.text c.in-Some.is c.loop-number.invariant in
    part_serves _ _ _ _ (news_line many _ d (draft_of c.hear.new.reader) c.in-Ok.said c.in-Some.text.now
    c.split_line.result.0.now c.split_line.result.1 c.split_line.ensures c.in-Ok.ensures.ok c.serve_new.ensures.many) _
    _ old mid so_far s.bases.items new c.in-Ok-serve_new.ensures.served.serves

pub returns : goal.returns
returns g c = record {
  served = record {
    serves = tt;
    ends = ends_here _ _ _ _ (seen_by c.args.self.now (g.W.Write.contents c.args.out.now)) (server_of
        c.loop-number.self.session (g.W.Write.contents c.loop-number.out) c.loop-number.self.lines
        c.loop-number.self.waited.items c.loop-number.self.places.marks.items) c.loop-number.invariant;
  };
}
