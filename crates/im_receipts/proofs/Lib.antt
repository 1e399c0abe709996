pub mod Tellings
pub mod DurableLemmas
pub mod TimedLemmas
