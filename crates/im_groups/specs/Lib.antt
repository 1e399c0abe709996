pub mod Commands
pub mod Ahead
pub mod Marks
