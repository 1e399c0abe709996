pub mod Headers
pub mod Writes
pub mod Meanings
mod Counterexamples
