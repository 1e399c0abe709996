use Rattle.std.proofs.Common.{ℕ, true, List, [], ◌∷◌, sym, refl, ◌∙◌, subst}
use Rattle.im_script.specs.declared.Action.TheVariants.{Alloc}
use Rattle.im_serial.proofs.OnceLemmas.{makes_block, names_kept, passed_named}
use Rattle.im_serial.specs.{Asked.Wanted, Once.HasPassed, Once.is_had, Serving.seen_by}
use Rattle.im_serial.proofs.server.Server.meet_block.Goals as goal

pub returns-in-Err-clause-passed : goal.returns-in-Err-clause-passed
returns-in-Err-clause-passed g c = c.in-Err.ensures.passed (record {
  element = 0;
  action = Alloc c.args.block.kind c.args.block.length;
  named = true;
}) refl

pub returns-clause-names : goal.returns-clause-names
returns-clause-names g c = names_kept c.name_past.result c.args.past.now.many.items c.args.past.now.end (record {
  element = 0;
  action = Alloc c.args.block.kind c.args.block.length;
  named = true;
}) c.args.self.now.bases.items _ _ _ _ _ _ refl c.name_past.ensures.many c.in-Ok.ensures.many c.in-Ok.ensures.bases
    c.in-Ok.ensures.end (is_had c.in-Ok.met) c.in-Ok.ensures.had c.name_past.ensures.new c.name_past.ensures.had

pub returns-clause-made : goal.returns-clause-made
returns-clause-made g c = makes_block c.name_past.result c.args.self.now.session.engine.memory
    c.args.past.now.many.items _
    (record {
      element = 0;
      action = Alloc c.args.block.kind c.args.block.length;
      named = true;
    }) c.in-Ok.met (c.name_past.ensures.many ∙ c.in-Ok.ensures.many) c.in-Ok.ensures.had c.in-Ok.ensures.found
    c.name_past.ensures.made

pub returns-clause-passed : goal.returns-clause-passed
returns-clause-passed g c =
    let was = c.args.self.now in
    let old = seen_by was (g.W.Write.contents c.args.out.now)
    in
    let s = c.meet.new.self in
    let mid = seen_by s (g.W.Write.contents c.meet.new.out) in
    let many = c.args.past.now.many.items in
    let w : Wanted = record { element = 0; action = Alloc c.args.block.kind c.args.block.length; named = true } in
    subst (λ (l : List ℕ). HasPassed many (w ∷ []) l c.name_past.result old mid) (sym c.name_past.ensures.many)
    (passed_named c.name_past.result many c.meet.new.past.many.items (w ∷ []) old mid (c.in-Ok.ensures.passed w refl))
