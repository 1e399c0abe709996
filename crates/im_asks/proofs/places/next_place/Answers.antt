use Rattle.std.proofs.Common.{sym, ◌∙◌}

pub returns-in-Ok-clause-found : Rattle.im_asks.proofs.places.next_place.Goals.returns-in-Ok-clause-found
returns-in-Ok-clause-found c = (c.in-Ok.bounds, sym c.window.ensures ∙ c.in-Ok.is, c.place_within.ensures)
