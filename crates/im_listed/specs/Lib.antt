pub mod History
pub mod Numbers
pub mod Listing
pub mod Image
pub mod Asking
