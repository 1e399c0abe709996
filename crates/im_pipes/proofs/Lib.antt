pub mod RuleLemmas
pub mod MessageLemmas
