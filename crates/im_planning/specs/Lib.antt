pub mod Making
pub mod Fitting
pub mod Begins
pub mod Progress
