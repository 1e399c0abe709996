pub mod Headers
pub mod ImageStart
pub mod Fresh
pub mod Encoding
pub mod Reading
