pub mod FittingLemmas
pub mod MakingLemmas
pub mod ProgressLemmas
