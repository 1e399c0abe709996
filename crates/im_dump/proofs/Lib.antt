pub mod SalvageLemmas
pub mod WritingLemmas
pub mod DumpingLemmas
pub mod Cuts
pub mod Steps
pub mod CellCuts
pub mod WindowCuts
pub mod DumpLaw
