pub mod Rows
pub mod Entries
pub mod Placed
pub mod Paging
pub mod Words
pub mod Filled
