use Rattle.std.proofs.Common.{◌∙◌}
use Rattle.clap.{proofs.WalkLemmas.first_value-rows, specs.Words.found_of}

pub returns : Rattle.im_words.proofs.given.path_if.Goals.returns
returns c = c.get_str.ensures ∙ first_value-rows (found_of c.args.found.now) c.args.id.now
