pub mod Images
pub mod Rings
