pub mod Nodes
pub mod Runs
pub mod Shown
pub mod Cuts
pub mod Least
pub mod Kept
pub mod Taking
pub mod Giving
