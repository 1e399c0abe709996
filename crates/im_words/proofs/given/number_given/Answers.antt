use Rattle.std.proofs.Common.{Some, None, ap, ◌∙◌}
use Rattle.im_words.{proofs.GivenLemmas.given_none, proofs.GivenLemmas.given_some, specs.Words.given_number}
use Rattle.im_words.proofs.given.number_given.Goals as goal

pub returns-in-Some : goal.returns-in-Some
returns-in-Some c = c.number_of.ensures ∙ ap given_number c.as_bytes.ensures.value
    ∙ given_some given_number (Some None) c.args.found.now c.args.id.now c.get_str.result c.get_str.ensures
    c.in-Some.text c.in-Some.is

pub returns-in-None : goal.returns-in-None
returns-in-None c =
    given_none given_number (Some None) c.args.found.now c.args.id.now c.get_str.result c.get_str.ensures c.in-None.is
