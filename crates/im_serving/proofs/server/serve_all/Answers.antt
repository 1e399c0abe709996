use Rattle.std.proofs.Common.{◌≡◌, [], ◌∷◌, ◌++◌, sym, ◌∙◌, subst, rules}
use Rattle.im_serving.{proofs.CallsLemmas.alone_as, proofs.CallsLemmas.alone_then, specs.Serving.AreDone}
use Rattle.im_serving.proofs.GlanceLemmas.{begun_all, begun_then, counted_same, counted_then, done_then, few_by}
use Rattle.im_serving.proofs.GlanceLemmas.{few_then, glanced_then}
use Rattle.im_serving.proofs.ToldLemmas.{tells_then, untold_grows}
use Rattle.im_serving.proofs.server.serve_all.Goals as goal

pub loop-preserved : goal.loop-preserved
loop-preserved g c = (
  search rules,
  search rules,
  search rules,
  search rules,
  search rules,
  search rules,
  done_then c.args.port.now c.loop.port c.serve_intent.new.port c.args.served.now c.loop.served
      c.serve_intent.new.served c.args.glances.now.made.items c.loop.glances.made.items
      c.serve_intent.new.glances.made.items
      c.args.outlet.now.items c.loop.outlet.items c.receive.new.self.items c.in-Item.intent c.loop.invariant.6
      c.in-Ok.ensures.done (search rules),
  counted_then _ _ _ _ c.loop.outlet.items c.receive.new.self.items c.in-Item.intent c.in-Ok.ensures.count
      c.loop.invariant.7 (search rules),
  glanced_then g.K.Name.origin.memory c.args.port.now.element c.loop.port.element c.args.glances.now.last
      c.loop.glances.last c.serve_intent.new.glances.last
      c.args.glances.now.glance c.loop.glances.glance c.serve_intent.new.glances.glance
      c.args.glances.now.made.items c.loop.glances.made.items c.serve_intent.new.glances.made.items c.loop.invariant.2
      c.loop.invariant.8 c.serve_intent.ensures.seen,
  tells_then c.args.port.now.history c.loop.port.history c.serve_intent.new.port.history c.args.port.now.element
      c.loop.port.element c.args.served.now c.loop.served c.serve_intent.new.served _ _ _ c.loop.invariant.2
      c.loop.invariant.9 c.serve_intent.ensures.told,
  λ start. alone_then g.K.Name.origin.marks c.args.port.now.element c.loop.port.element c.args.served.now.first
      c.loop.served.first c.loop.served.untold c.serve_intent.new.served.untold c.loop.outlet.items
      c.receive.new.self.items c.in-Item.intent c.args.port.now c.loop.port c.serve_intent.new.port c.loop.invariant.2
      c.loop.invariant.3 (untold_grows _ _ _ _ _ _ _ c.serve_intent.ensures.told) (search rules)
      (c.loop.invariant.10 start) (c.serve_intent.ensures.alone c.loop.outlet.items (c.loop.invariant.6 start)),
)

pub returns-in-Err-clause-done : goal.returns-in-Err-clause-done
returns-in-Err-clause-done g c =
    let l = c.loop in
    let s = c.serve_intent in
    let items : c.receive.new.self.items ≡ l.outlet.items ++ c.in-Item.intent ∷ [] = search rules in
    record {
      element = s.ensures.element.0 ∙ l.invariant.2;
      first = s.ensures.element.1 ∙ l.invariant.3;
      pipe = c.receive.ensures.same ∙ l.invariant.5;
      ended = tt;
      begun = begun_then c.args.port.now l.port s.new.port c.args.served.now l.served s.new.served
          c.args.glances.now.made.items l.glances.made.items s.new.glances.made.items c.args.outlet.now.items
          l.outlet.items c.receive.new.self.items c.in-Item.intent l.invariant.6 c.in-Err.ensures.kept items;
      done = tt;
      count = tt;
      few = few_then _ _ _ _ l.outlet.items c.receive.new.self.items c.in-Item.intent s.ensures.few l.invariant.7 items;
      seen = glanced_then g.K.Name.origin.memory c.args.port.now.element l.port.element c.args.glances.now.last
          l.glances.last s.new.glances.last c.args.glances.now.glance l.glances.glance s.new.glances.glance
          c.args.glances.now.made.items l.glances.made.items s.new.glances.made.items l.invariant.2 l.invariant.8
          s.ensures.seen;
      alone = λ start. alone_then g.K.Name.origin.marks c.args.port.now.element l.port.element
          c.args.served.now.first l.served.first l.served.untold s.new.served.untold l.outlet.items
          c.receive.new.self.items c.in-Item.intent c.args.port.now l.port s.new.port l.invariant.2 l.invariant.3
          (untold_grows _ _ _ _ _ _ _ s.ensures.told) items (l.invariant.10 start)
          (s.ensures.alone l.outlet.items (l.invariant.6 start));
    }

pub returns-in-End-clause-done : goal.returns-in-End-clause-done
returns-in-End-clause-done g c =
    let l = c.loop in
    let items : c.receive.new.self.items ≡ l.outlet.items = search rules in
    let count = counted_same _ _ _ l.outlet.items c.receive.new.self.items l.invariant.7 items in
    record {
      element = l.invariant.2;
      first = l.invariant.3;
      pipe = c.receive.ensures.same ∙ l.invariant.5;
      ended = search rules;
      begun = λ d. begun_all l.port l.served l.glances.made.items l.outlet.items c.receive.new.self.items items
          (l.invariant.6 d);
      done = λ d. subst (AreDone l.port l.served l.glances.made.items) (sym items) (l.invariant.6 d);
      count = count;
      few = few_by _ _ count;
      seen = l.invariant.8;
      alone = λ start. alone_as g.K.Name.origin.marks c.args.port.now.element c.args.served.now.first l.served.untold
          l.outlet.items c.receive.new.self.items c.args.port.now l.port items (l.invariant.10 start);
    }

pub returns-in-Gone-clause-done : goal.returns-in-Gone-clause-done
returns-in-Gone-clause-done g c =
    let l = c.loop in
    let items : c.receive.new.self.items ≡ l.outlet.items = search rules in
    let count = counted_same _ _ _ l.outlet.items c.receive.new.self.items l.invariant.7 items in
    record {
      element = l.invariant.2;
      first = l.invariant.3;
      pipe = c.receive.ensures.same ∙ l.invariant.5;
      ended = tt;
      begun = λ d. begun_all l.port l.served l.glances.made.items l.outlet.items c.receive.new.self.items items
          (l.invariant.6 d);
      done = tt;
      count = tt;
      few = few_by _ _ count;
      seen = l.invariant.8;
      alone = λ start. alone_as g.K.Name.origin.marks c.args.port.now.element c.args.served.now.first l.served.untold
          l.outlet.items c.receive.new.self.items c.args.port.now l.port items (l.invariant.10 start);
    }

pub returns-in-Err-clause-told : goal.returns-in-Err-clause-told
returns-in-Err-clause-told g c =
    tells_then c.args.port.now.history c.loop.port.history c.serve_intent.new.port.history c.args.port.now.element
    c.loop.port.element c.args.served.now c.loop.served c.serve_intent.new.served _ _ _ c.loop.invariant.2
    c.loop.invariant.9 c.serve_intent.ensures.told
