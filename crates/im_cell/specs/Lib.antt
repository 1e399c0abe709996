pub mod Slots
pub mod Cells
pub mod Units
pub mod Table
pub mod Quiet
