pub mod Joined
pub mod Agreement
pub mod Access
pub mod Records
