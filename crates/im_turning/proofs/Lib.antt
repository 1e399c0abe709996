pub mod TurningLemmas
