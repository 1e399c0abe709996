use Rattle.std.proofs.Common.{map, length, sym, ap, ◌∙◌, subst}
use Rattle.im_text.specs.Said.{who_of}
use Rattle.im_serial.{proofs.NotedLemmas.written_back, specs.Noted.AreKnown, specs.Noted.AreLast}

pub returns-clause-last : Rattle.im_serial.proofs.server.Server.learn_all.Goals.returns-clause-last
returns-clause-last g c = λ m put same known.
    let was = c.args.self.now in
    let value = c.as_mut_slice.ensures.value in
    let back = written_back was.waited.len c.learn_all.new.waited was.waited.items (c.learn_all.ensures.names ∙ ap (map who_of) value) (ap length (sym value) ∙ c.as_mut_slice.ensures.len) in
    subst (AreLast m put) (sym back) (c.learn_all.ensures.last m put (c.memory.ensures ∙ same) (subst (AreKnown m put) (sym value) known))
