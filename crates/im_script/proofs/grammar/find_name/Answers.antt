use Rattle.std.proofs.Common.{bytes_eq, ◌∙◌}
use Rattle.im_script.proofs.PlaceLemmas.{position-texts}

pub returns-clause-place : Rattle.im_script.proofs.grammar.find_name.Goals.returns-clause-place
returns-clause-place c = c.get_index_of.ensures.index ∙ position-texts (bytes_eq c.args.name.now) c.args.names.now.keys
