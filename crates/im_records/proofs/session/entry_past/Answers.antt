use Rattle.std.proofs.Common.{sym, ◌∙◌}
use Rattle.im_records.proofs.{Reading.none_some, Reading.some_inj, SessionLemmas.entry_is_read}
use Rattle.im_records.proofs.session.entry_past.Goals as goal

pub returns-in-Some : goal.returns-in-Some
returns-in-Some c = λ w spells is. some_inj _ _
    (sym c.in-Some.is ∙ c.read_place.ensures
    ∙ entry_is_read c.args.version c.args.bytes.now w c.args.base c.args.past c.place_of-place.result c.requires.few spells is c.place_of-place.ensures.at c.place_of-place.ensures.below)

pub returns-in-None : goal.returns-in-None
returns-in-None c = λ w spells is. absurd
    (none_some _ (sym c.in-None.is ∙ c.read_place.ensures
    ∙ entry_is_read c.args.version c.args.bytes.now w c.args.base c.args.past c.place_of-place.result c.requires.few spells is c.place_of-place.ensures.at c.place_of-place.ensures.below))
