pub mod GivenLemmas
pub mod RowLemmas
