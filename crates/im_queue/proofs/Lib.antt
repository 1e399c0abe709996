pub mod StuckLemmas
pub mod Gathering
pub mod Taking
