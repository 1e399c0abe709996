pub mod Places
pub mod Grammar
pub mod Lines
pub mod Script
pub mod Faults
pub mod Words
