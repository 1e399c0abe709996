pub mod State
pub mod Formatting
pub mod Leaving
pub mod Answered
pub mod Groups
pub mod Commands
pub mod Chain
