mod AsMemory
mod AsImage
pub mod Boxes
pub mod Faults
mod Crosses
pub mod Cells
