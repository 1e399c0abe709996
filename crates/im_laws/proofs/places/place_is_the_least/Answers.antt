use Rattle.im_laws.proofs.BlockLemmas.{place-fits}
use Rattle.im_laws.proofs.PlaceLemmas.{place-free, place-is_least, place-is_none, place-least, place-none}
use Rattle.im_laws.proofs.places.place_is_the_least.Goals as goal

pub returns-clause-least : goal.returns-clause-least
returns-clause-least c = λ cells n base some. (place-least n cells base, place-is_least n cells base some)

pub returns-clause-none : goal.returns-clause-none
returns-clause-none c = λ cells n some. (place-none n cells some, place-is_none n cells)

pub returns-clause-within : goal.returns-clause-within
returns-clause-within c = λ cells n base. place-fits n cells base

pub returns-clause-free : goal.returns-clause-free
returns-clause-free c = λ cells n base a found. place-free n cells base found a
