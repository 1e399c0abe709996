use Rattle.std.proofs.Common.{refl, inl, inr}
use Rattle.im_serial.specs.{Asked.wanted_of, Serving.seen_by}
use Rattle.im_run.proofs.RestLemmas.{bases_rest, ready_rest, rest_by, unrun_by}
use Rattle.im_run.proofs.once.run_rest.Goals as goal

pub run_server-requires-clause-ready : goal.run_server-requires-clause-ready
run_server-requires-clause-ready g c κs within =
    let was = c.args.server in
    let old = seen_by was (g.W.Write.contents c.args.out.now)
    in
    let s = c.show_past.new.self in
    let mid = seen_by s (g.W.Write.contents c.show_past.new.out) in
    ready_rest g.D.Disk (wanted_of c.args.asked.script.now) old mid was.bases.items c.requires.ready s.bases.items
    c.in-Ok.ensures.shown c.new-none.result.items c.new-none.ensures.items

pub run_server-requires-clause-bases : goal.run_server-requires-clause-bases
run_server-requires-clause-bases g c κs within =
    let was = c.args.server in
    let old = seen_by was (g.W.Write.contents c.args.out.now)
    in
    let s = c.show_past.new.self in
    let mid = seen_by s (g.W.Write.contents c.show_past.new.out) in
    bases_rest g.D.Disk (wanted_of c.args.asked.script.now) old mid was.bases.items c.requires.ready s.bases.items
    c.in-Ok.ensures.shown c.args.asked.script.now refl

pub returns-in-Ok-clause-ends : goal.returns-in-Ok-clause-ends
returns-in-Ok-clause-ends g c =
    let was = c.args.server in
    let old = seen_by was (g.W.Write.contents c.args.out.now)
    in
    let s = c.show_past.new.self in
    let mid = seen_by s (g.W.Write.contents c.show_past.new.out) in
    let r = c.run_server in
    inr (rest_by g.D.Disk (wanted_of c.args.asked.script.now) old mid was.bases.items c.requires.ready s.bases.items
    c.in-Ok.ensures.shown c.args.asked.planned c.args.asked.script.now refl c.in-Ok.ensures.fit r.result.1
    (g.W.Write.contents r.new.out, r.result.3) r.result.2 r.result.0 r.ensures.run)

pub returns-in-Err-clause-ends : goal.returns-in-Err-clause-ends
returns-in-Err-clause-ends g c =
    let was = c.args.server in
    let old = seen_by was (g.W.Write.contents c.args.out.now)
    in
    let s = c.show_past.new.self in
    let mid = seen_by s (g.W.Write.contents c.show_past.new.out) in
    let k = c.refuse_rest-status in
    inl (unrun_by g.D.Disk (wanted_of c.args.asked.script.now) old mid was.bases.items c.requires.ready
    c.show_past.ensures.session k.ensures.kept c.in-Err.ensures.shown c.in-Err.ensures.fit k.result.1
    (g.W.Write.contents k.new.out, k.result.2) c.new.result k.result.0 k.ensures.status k.ensures.disk k.ensures.last
    c.new.ensures)
