use Rattle.std.proofs.Common.{Some, codes, ap, ◌∙◌}
use Rattle.im_words.{proofs.GivenLemmas.given_none, proofs.GivenLemmas.given_some, specs.Words.seconds_of}
use Rattle.im_words.proofs.given.seconds_given.Goals as goal

pub returns-in-Some : goal.returns-in-Some
returns-in-Some c = c.read_seconds.ensures ∙ ap seconds_of c.as_bytes.ensures.value
    ∙ given_some seconds_of (Some 0) c.args.found.now (codes "wait") c.get_str.result c.get_str.ensures c.in-Some.text
    c.in-Some.is

pub returns-in-None : goal.returns-in-None
returns-in-None c =
    given_none seconds_of (Some 0) c.args.found.now (codes "wait") c.get_str.result c.get_str.ensures c.in-None.is
