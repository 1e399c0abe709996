use Rattle.std.proofs.Common.{◌∙◌}
use Rattle.im_script.{proofs.PlaceLemmas.place_by_parts, specs.Grammar.texts}

pub returns : Rattle.im_script.proofs.grammar.read_named.Goals.returns
returns c = c.make_place.ensures
    ∙ place_by_parts (texts c.args.names.now.keys) c.args.word.now _ _ c.find_name.result c.read_offset.result c.split_before.ensures.first c.split_before.ensures.rest c.find_name.ensures.place c.read_offset.ensures
