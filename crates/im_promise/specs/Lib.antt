pub mod Acknowledged
pub mod Recovery
pub mod Again
pub mod Groups
pub mod Traces
