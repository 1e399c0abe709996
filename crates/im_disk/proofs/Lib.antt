pub mod OverlayLemmas
pub mod SinceLemmas
pub mod RecordLemmas
pub mod RecordingLemmas
pub mod GateLemmas
pub mod AccountLemmas
pub mod RunLemmas
