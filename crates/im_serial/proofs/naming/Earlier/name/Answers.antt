use Rattle.im_serial.proofs.NamedLemmas.{named_behind}
use Rattle.im_serial.proofs.naming.Earlier.name.Goals as goal

pub returns-then-it-last_of-clause-kept : goal.returns-then-it-last_of-clause-kept
returns-then-it-last_of-clause-kept g c = λ w there.
    named_behind c.args.self.now.named c.note.new.self c.args.it w c.note.ensures there
