pub mod Tree
pub mod Holes
