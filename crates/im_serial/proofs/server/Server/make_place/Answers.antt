use Rattle.std.proofs.Common.{map, length, sym, ap, ◌∙◌, subst}
use Rattle.{im_types.specs.Types.Contents, im_text.specs.Said.who_of}
use Rattle.im_serial.proofs.NotedLemmas.{noted_from, written_back}
use Rattle.im_serial.proofs.{PlaceLemmas.due_bounds, ScriptedLemmas.drops_then, ScriptedLemmas.learns}
use Rattle.im_serial.specs.{Had.left_of, Named.AreNamed, Noted.AreNoted}
use Rattle.im_serial.proofs.server.Server.make_place.Goals as goal

pub returns-clause-goes : goal.returns-clause-goes
returns-clause-goes g c =
    let was = c.args.self.now in
    let marks = was.places.marks.items in
    let later = c.learn.new.places.marks.items in
    let element = c.args.element in
    let base = c.args.numbers.0 in
    let upto = c.args.numbers.1 in
    let value = c.as_mut_slice.ensures.value in
    let same_names = c.learn.ensures.names ∙ ap (map who_of) value in
    let back = written_back was.waited.len c.learn.new.waited was.waited.items same_names (ap length (sym value)
    ∙ c.as_mut_slice.ensures.len) in
    let found = due_bounds was.session.engine.memory element base upto c.requires.due in
    drops_then c.serve_one.result element upto was.session c.serve_one.new.session was.waited.items _ marks later
    (base, c.requires.due)
    (λ start s text serving. learns start was.session element upto base found.next was.waited.items _ marks later
    (ap (map who_of) back ∙ same_names) found.are
    (λ m put same memory there noted. subst (AreNoted m put element upto later) (sym back) (c.learn.ensures.learnt
    found.from m put (c.memory.ensures ∙ same) memory
    (subst (AreNoted m put element base marks) (sym value) (noted_from m put element base found.next marks
    was.waited.items there noted)))) s text serving) c.serve_one.ensures.served c.serve_one.ensures.refused

pub returns-clause-named : goal.returns-clause-named
returns-clause-named g c =
    let was = c.args.self.now in
    subst (λ (m : Contents). AreNamed m (left_of was.earlier.last.items c.args.element) c.args.element
    c.args.numbers.0 c.args.numbers.1 c.name_all.new.self.named) c.memory-2.ensures c.name_all.ensures.named
