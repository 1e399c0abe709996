pub mod Notes
pub mod Lasting
