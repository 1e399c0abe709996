use Rattle.std.{proofs.Common.[], specs.Option.option_map_or}
use Rattle.im_script.specs.Script.{draft_of, lines_of}
use Rattle.im_serial.proofs.ScriptedLemmas.{ends_here, has_served, line_ends, line_serves, lines_end, lines_left}
use Rattle.im_serial.specs.{Asked.wanted_in, Asked.wanted_of, Serving.seen_by}
use Rattle.im_serial.proofs.server.Server.serve.Goals as goal

pub returns-in-None : goal.returns-in-None
returns-in-None g c = record {
  served = has_served _ (wanted_of c.args.script.now) _ _ _ _
      (lines_end (wanted_of c.args.script.now) c.args.self.now.bases.items c.loop-number.self.bases.items _ _
      (draft_of c.loop-number.reader) c.loop-number.rest c.in-None.is c.loop-number.invariant);
}

pub returns-in-Err : goal.returns-in-Err
returns-in-Err g c = record {
  served = record {
    serves = tt;
    ends = ends_here (wanted_of c.args.script.now) (option_map_or (λ text.
        wanted_in (draft_of c.loop-number.reader) (lines_of text.now)) c.loop-number.rest []) c.args.self.now.bases.items
        c.loop-number.self.bases.items _ _ c.loop-number.invariant;
  };
}

pub returns-in-Err-serve_and_show : goal.returns-in-Err-serve_and_show
returns-in-Err-serve_and_show g c =
    let n = c.serve_and_show.new.self in
    let new = seen_by n (g.W.Write.contents c.serve_and_show.new.out) in
    let d = draft_of c.loop-number.reader in
    let all = wanted_of c.args.script.now in
    let first = c.args.self.now.bases.items in
    let before = c.loop-number.self.bases.items in
    let so_far = lines_left all first before _ _ d c.loop-number.rest c.in-Some.text c.in-Some.is
    c.loop-number.invariant in
    record {
      served = record {
        serves = tt;
        ends = line_ends all first before _ _ d (draft_of c.hear.new.reader) c.in-Ok.said c.in-Some.text.now
            c.split_line.result.0.now c.split_line.result.1 c.split_line.ensures c.in-Ok.ensures.ok so_far new
            c.in-Err-serve_and_show.ensures.served.ends;
      };
    }

pub loop-number-preserved : goal.loop-number-preserved
loop-number-preserved g c =
    let d = draft_of c.loop-number.reader in
    let all = wanted_of c.args.script.now in
    let first = c.args.self.now.bases.items in
    let before = c.loop-number.self.bases.items in
    let so_far = lines_left all first before _ _ d c.loop-number.rest c.in-Some.text c.in-Some.is
    c.loop-number.invariant in
    line_serves all first before _ _ d (draft_of c.hear.new.reader) c.in-Ok.said c.in-Some.text.now
    c.split_line.result.0.now c.split_line.result.1 c.split_line.ensures c.in-Ok.ensures.ok so_far
    c.serve_and_show.new.self.bases.items _ c.in-Ok-serve_and_show.ensures.served.serves

pub returns : goal.returns
returns g c = record {
  served = record {
    serves = tt;
    ends = ends_here (wanted_of c.args.script.now) (option_map_or (λ text.
        wanted_in (draft_of c.loop-number.reader) (lines_of text.now)) c.loop-number.rest []) c.args.self.now.bases.items
        c.loop-number.self.bases.items _ _ c.loop-number.invariant;
  };
}
