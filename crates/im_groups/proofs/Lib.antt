pub mod CommandLemmas
pub mod RequestLemmas
pub mod AheadLemmas
pub mod JudgedLemmas
pub mod MarkLemmas
pub mod WholeLemmas
pub mod LineLemmas
pub mod EnoughLemmas
