pub mod Report
pub mod Inspecting
pub mod Figures
pub mod Stat
pub mod ReportJson
pub mod Look
