pub mod Alike
pub mod Durable
pub mod Timed
