pub mod Dump
pub mod Dumping
pub mod Faults
pub mod Fitting
pub mod Salvage
