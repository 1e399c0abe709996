use Rattle.std.proofs.Common.{Some, None, codes, ◌∙◌}
use Rattle.im_words.{proofs.GivenLemmas.given_none, proofs.GivenLemmas.given_some, specs.Words.span_given}
use Rattle.im_words.proofs.given.cells_given.Goals as goal

pub returns-in-Some : goal.returns-in-Some
returns-in-Some c = c.span_given.ensures
    ∙ given_some span_given (Some None) c.args.found.now (codes "cells") c.get_str.result c.get_str.ensures
    c.in-Some.text c.in-Some.is

pub returns-in-None : goal.returns-in-None
returns-in-None c =
    given_none span_given (Some None) c.args.found.now (codes "cells") c.get_str.result c.get_str.ensures c.in-None.is
