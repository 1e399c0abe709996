use Rattle.std.proofs.Common.{sym, ◌∙◌}
use Rattle.im_serial.{proofs.NamedLemmas.named_kept, proofs.NamedLemmas.named_unkept, specs.Had.left_of}
use Rattle.im_serial.proofs.naming.Earlier.name_kept.Goals as goal

pub returns-in-Some-clause-named : goal.returns-in-Some-clause-named
returns-in-Some-clause-named g c = named_kept c.args.memory.now.contents
    (left_of c.args.self.now.last.items c.args.who.0) c.args.who.0 c.args.who.1 c.args.self.now.named
    c.name.new.self.named c.in-Some.kept (sym c.kept.ensures ∙ c.in-Some.is) c.name.ensures.named

pub returns-in-None-clause-named : goal.returns-in-None-clause-named
returns-in-None-clause-named g c = named_unkept c.args.memory.now.contents
    (left_of c.args.self.now.last.items c.args.who.0) c.args.who.0 c.args.who.1 c.args.self.now.named
    (sym c.kept.ensures ∙ c.in-None.is)
