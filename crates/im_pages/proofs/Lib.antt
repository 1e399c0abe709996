pub mod BitLemmas
pub mod RangeLemmas
pub mod SetLemmas
