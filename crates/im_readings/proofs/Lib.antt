pub mod RowLemmas
pub mod TailLemmas
pub mod MeaningLemmas
pub mod FeedLemmas
pub mod WordLemmas
pub mod SaidLemmas
mod Counterexamples
