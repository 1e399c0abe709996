pub mod SendLemmas
pub mod Crosses
pub mod AnswerLemmas
pub mod ToldLemmas
pub mod CallsLemmas
pub mod GlanceLemmas
pub mod ElementLemmas
