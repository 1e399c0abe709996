pub mod Reading
pub mod Fitting
