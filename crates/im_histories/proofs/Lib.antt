pub mod Given
pub mod ListLemmas
pub mod EndEntry
pub mod CellStep
pub mod OneStep
pub mod NewEntry
pub mod CellLaw
pub mod Life
pub mod FetchLaw
pub mod TakeLaw
pub mod AllLives
pub mod AllEntries
pub mod Laws
mod Counterexamples
