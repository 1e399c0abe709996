pub mod Keeping
pub mod Making
pub mod Serving
pub mod Accepting
pub mod StepFaults
pub mod Opening
pub mod FilesMean
mod Counterexamples
pub mod Members
pub mod Adding
pub mod Together
pub mod Requests
pub mod Chaining
pub mod Advancing
