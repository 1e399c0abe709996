pub mod Diagnosis
pub mod Objects
pub mod Texts
pub mod Printing
pub mod Said
pub mod Statuses
