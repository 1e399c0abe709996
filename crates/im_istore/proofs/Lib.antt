pub mod Cells
pub mod Accesses
pub mod Draining
pub mod Blocks
pub mod Waiters
