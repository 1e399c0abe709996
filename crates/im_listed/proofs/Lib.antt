pub mod StepLemmas
pub mod NumberLemmas
pub mod ImageLemmas
pub mod OrderLemmas
