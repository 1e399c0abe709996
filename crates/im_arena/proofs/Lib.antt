pub mod Moves
pub mod Tables
pub mod Views
pub mod Start
pub mod Threads
pub mod Walks
pub mod Room
pub mod Frames
