pub mod Same
pub mod Fields
pub mod Places
pub mod Records
pub mod Headers
pub mod Sessions
mod Vectors
mod Counterexamples
