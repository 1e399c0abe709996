pub mod Places
pub mod Sources
pub mod Working
pub mod Moving
pub mod Loading
pub mod Told
pub mod Ending
pub mod Prompting
