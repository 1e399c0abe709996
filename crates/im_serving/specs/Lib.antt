pub mod Numbers
pub mod Earlier
pub mod Told
pub mod Serving
pub mod Calls
pub mod Elements
