use Rattle.std.proofs.Common.{ℕ, List, ap, ◌∙◌}
use Rattle.{im_session.specs.Kept.SessionState, im_text.specs.declared.Reason.TheVariants.Memory}
use Rattle.im_serial.proofs.OnceLemmas.{once_unbegun, shown_ends, shown_serves}
use Rattle.im_serial.specs.{Asked.wanted_of, Had.news, Had.numbers_had, Serving.seen_by}
use Rattle.im_serial.proofs.server.Server.serve_once.Goals as goal

pub returns-in-Err : goal.returns-in-Err
returns-in-Err g c =
    let was = c.args.self.now in
    let old = seen_by was (g.W.Write.contents c.args.out.now)
    in
    let s = c.show_past.new.self in
    let mid = seen_by s (g.W.Write.contents c.show_past.new.out) in
    let all = wanted_of c.args.script.now in
    record {
      served = once_unbegun (Unit {0}) c.in-Err.reason all old mid was.bases.items c.show_past.ensures.session
          c.in-Err.ensures.shown c.in-Err.ensures.fit;
    }

pub returns-in-Err-new : goal.returns-in-Err-new
returns-in-Err-new g c =
    let was = c.args.self.now in
    let old = seen_by was (g.W.Write.contents c.args.out.now)
    in
    let s = c.show_past.new.self in
    let mid = seen_by s (g.W.Write.contents c.show_past.new.out) in
    let all = wanted_of c.args.script.now in
    record {
      served = shown_ends all was.bases.items s.bases.items old mid c.in-Ok.ensures.shown c.in-Ok.ensures.fit (Unit {0}) Memory;
    }

pub returns : goal.returns
returns g c =
    let was = c.args.self.now in
    let old = seen_by was (g.W.Write.contents c.args.out.now)
    in
    let s = c.show_past.new.self in
    let mid = seen_by s (g.W.Write.contents c.show_past.new.out) in
    let all = wanted_of c.args.script.now in
    let r = c.serve_rest.new.self in
    let new = seen_by r (g.W.Write.contents c.serve_rest.new.out)
    in
    record {
      served = shown_serves all was.bases.items s.bases.items old mid c.in-Ok.ensures.shown c.in-Ok.ensures.fit c.serve_rest.result
          r.bases.items new (news c.in-Ok-new.past.many.items all)
          (ap (λ (l : List ℕ). news l all) (c.in-Ok-new.ensures.many ∙ ap numbers_had (c.memory.ensures
          ∙ ap (λ (e : SessionState g.row.D.Denot). e.engine.memory) c.show_past.ensures.session)))
          c.serve_rest.ensures.served;
    }
