use Rattle.im_laws.proofs.EntryLemmas.{after-keeps, after-lasts, answered-lasts}
use Rattle.im_laws.proofs.RunAgrees.{step-keeps}
use Rattle.im_laws.proofs.entries.entry_lasts.Goals as goal

pub returns-clause-step : goal.returns-clause-step
returns-clause-step c = step-keeps

pub returns-clause-run : goal.returns-clause-run
returns-clause-run c = λ m commands who k keeps. after-lasts m commands keeps.agrees who k keeps.is

pub returns-clause-unconfirmed : goal.returns-clause-unconfirmed
returns-clause-unconfirmed c = λ m commands who k keeps. after-keeps m commands keeps.agrees who k keeps.is

pub returns-clause-answered : goal.returns-clause-answered
returns-clause-answered c = λ m commands who k keeps. answered-lasts m commands keeps.agrees who k keeps.is
