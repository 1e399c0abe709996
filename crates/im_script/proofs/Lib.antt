pub mod NumberLemmas
pub mod PlaceLemmas
pub mod ScriptLemmas
pub mod TextLemmas
pub mod WordLemmas
