pub mod Sent
pub mod Answering
pub mod Recovering
pub mod Reopening
pub mod Grouping
pub mod Asking
pub mod Alike
mod SessionLemmas
