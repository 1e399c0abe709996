pub mod LendingLemmas
pub mod PatientLemmas
