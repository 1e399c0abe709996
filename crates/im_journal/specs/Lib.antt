pub mod Holding
pub mod Gates
pub mod Groups
pub mod Laid
pub mod OnDisk
