pub mod Windows
pub mod Behind
