use Rattle.std.proofs.Common.{[], refl, ◌∙◌, append-nil, arith}
use Rattle.im_serving.proofs.{AnswerLemmas.found_length, ToldLemmas.tells_as}
use Rattle.im_serving.proofs.CallsLemmas.{at_most, makes_more, ops_longer, own_then}
use Rattle.im_serving.proofs.GlanceLemmas.{always, begun_more, done_on, few_more, still_counted, still_few}
use Rattle.im_serving.specs.Serving.{ops_of}
use Rattle.im_serving.proofs.server.serve_to_end.Goals as goal

pub returns-in-Ok : goal.returns-in-Ok
returns-in-Ok g c =
    let s = c.serve_all.new in
    let a = c.await_rest in
    let it = c.in-Ok.ensures.done in
    let same = found_length a.new.port.history s.port.element s.served.first s.served.entries.items
    a.new.served.entries.items a.ensures.looked.found in
    record {
      done = record {
        element = a.ensures.element ∙ it.element;
        first = a.ensures.first ∙ it.first;
        pipe = it.pipe;
        ended = always a.result it.ended;
        begun = λ d. (
          s.outlet.items,
          ([], append-nil s.outlet.items),
          done_on s.port a.new.port s.served a.new.served s.glances.made.items s.glances.made.items s.outlet.items
              a.ensures.element a.ensures.first refl a.ensures.looked (it.done d),
        );
        done = always a.result (λ d. done_on s.port a.new.port s.served a.new.served s.glances.made.items
            s.glances.made.items s.outlet.items a.ensures.element a.ensures.first refl a.ensures.looked (it.done d));
        count = always a.result (still_counted _ _ _ _ _ same it.count);
        few = still_few _ _ _ _ _ same it.few;
        seen = it.seen;
        alone = λ d. own_then g.K.Name.origin.marks c.args.port.now.element s.port.element c.args.served.now.first
            s.served.first s.served.untold a.new.served.untold (ops_of s.outlet.items) [] (ops_of s.outlet.items)
            c.args.port.now s.port a.new.port it.element it.first (at_most _ _ a.ensures.same.untold)
            ([], append-nil (ops_of s.outlet.items)) (ops_of s.outlet.items, refl) (it.alone d) a.ensures.alone;
      };
      told = tells_as c.args.port.now.history s.port.history a.new.port.history c.args.port.now.element
          c.args.served.now s.served a.new.served _ _ a.ensures.looked.longer a.ensures.same
          c.serve_all.ensures.told;
    }

pub returns-in-Err : goal.returns-in-Err
returns-in-Err g c =
    let s = c.serve_all.new in
    let d = c.drain in
    let it = c.in-Err.ensures.done in
    record {
      done = record {
        element = it.element;
        first = it.first;
        pipe = d.ensures.same ∙ it.pipe;
        ended = tt;
        begun = λ start. begun_more s.port s.served s.glances.made.items s.outlet.items d.new.outlet.items
            d.ensures.begins (it.begun start);
        done = tt;
        count = tt;
        few = few_more _ _ _ _ it.few d.ensures.more;
        seen = it.seen;
        alone = λ start. makes_more g.K.Name.origin.marks c.args.port.now.element c.args.served.now.first
            s.served.untold s.served.untold (ops_of s.outlet.items) (ops_of d.new.outlet.items) c.args.port.now s.port
            (omega arith) (ops_longer s.outlet.items d.new.outlet.items d.ensures.begins) (it.alone start);
      };
      told = c.serve_all.ensures.told;
    }
