pub mod Step
pub mod Copied
pub mod Turns
pub mod Keeping
