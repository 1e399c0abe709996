pub mod RingLemmas
pub mod WindowsLemmas
