pub mod CellLemmas
pub mod PrefixLemmas
pub mod BookLemmas
pub mod CopyLemmas
pub mod RuleLemmas
pub mod RoomLemmas
