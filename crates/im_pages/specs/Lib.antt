pub mod Places
pub mod PageSets
pub mod Words
