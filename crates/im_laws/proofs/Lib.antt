pub mod Tests
pub mod OpLemmas
pub mod PlaceLemmas
pub mod WindowLemmas
pub mod AgreementLemmas
pub mod BlockLemmas
pub mod StepLemmas
pub mod StepAgrees
pub mod RunAgrees
pub mod WaiterLemmas
pub mod BoundsLemmas
pub mod AcceptLemmas
pub mod MemoryLemmas
pub mod RunLemmas
pub mod GroupLemmas
pub mod ForgetLemmas
pub mod EntryLemmas
pub mod JudgeLemmas
pub mod TraceLemmas
pub mod ResumeLemmas
pub mod AllocateLemmas
pub mod CellLemmas
pub mod RefusalLemmas
pub mod WaitingCounts
pub mod Instances
mod Counterexamples
mod Plans
