pub mod Lending
pub mod Patience
pub mod Listening
