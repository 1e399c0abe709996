-- What is known of one step of a memory, passed on from one place. Declares nothing.
pub use Rattle.im_laws.proofs.WindowLemmas.{answered_kept, kept_for-note, kept_under-below}
pub use Rattle.im_laws.proofs.PlaceLemmas.{get_or-fill, get_or-change_each, get_or-change_each_in, place-free}
pub use Rattle.im_laws.proofs.BlockLemmas.{act-blocks, get_or-fill_in, place-fits}
pub use Rattle.im_laws.proofs.AgreementLemmas.{held_at-set, held_at-within, listed_at, one_if, same_waiter-equal}
pub use Rattle.im_laws.proofs.AgreementLemmas.{same_waiter-self, waits_for-kept}
pub use Rattle.im_laws.proofs.StepLemmas.{IsNext, judge-fresh, kept_for-next, AreKept, AfterAnswers}
pub use Rattle.im_laws.proofs.StepLemmas.{answer_each-AfterAnswers}
pub use Rattle.im_laws.proofs.RunAgrees.{step-agrees, step-keeps, empty-agrees}
