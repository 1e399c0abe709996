pub mod Put
pub mod Calls
pub mod Kept
pub mod Keeping
pub mod Serving
pub mod Events
pub mod Opening
pub mod Carrying
