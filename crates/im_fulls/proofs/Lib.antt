pub mod ChangeLemmas
pub mod GroupLemmas
pub mod BelowLemmas
mod Counterexamples
