pub mod Row
pub mod Walk
pub mod Local
pub mod Counting
pub mod Marking
pub mod Parts
