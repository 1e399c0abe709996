pub mod Groups
pub mod Examples
