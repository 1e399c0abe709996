pub mod Chain
pub mod Lists
pub mod Table
