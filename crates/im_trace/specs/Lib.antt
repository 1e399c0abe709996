pub mod Lines
pub mod Books
pub mod Begun
pub mod Origin
pub mod Chains
pub mod Traced
pub mod Log
pub mod Ends
