use Rattle.std.proofs.Common.{rules}
use Rattle.im_script.{proofs.TextLemmas.read_more, proofs.TextLemmas.read_whole, specs.declared.TheConstants.MAX_SCRIPT}
use Rattle.im_script.proofs.reading.read_text.Goals as goal

pub returns-then-len-gt-MAX_SCRIPT-clause-full : goal.returns-then-len-gt-MAX_SCRIPT-clause-full
returns-then-len-gt-MAX_SCRIPT-clause-full g c = λ large.
    read_more (g.I.Read.remaining c.args.input.now) c.read_up_to.new.text.items MAX_SCRIPT c.in-Ok.ensures
    (search rules)

pub returns-else-len-gt-MAX_SCRIPT-clause-found : goal.returns-else-len-gt-MAX_SCRIPT-clause-found
returns-else-len-gt-MAX_SCRIPT-clause-found g c =
    read_whole (g.I.Read.remaining c.args.input.now) c.read_up_to.new.text.items MAX_SCRIPT c.in-Ok.ensures
    (search rules)
