pub mod ReportLemmas
pub mod InspectingLemmas
pub mod SumLemmas
pub mod QueueLemmas
