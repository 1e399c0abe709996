pub mod ChainLemmas
pub mod TimeLemmas
pub mod ToldLemmas
pub mod SeenLemmas
pub mod LogLemmas
