pub mod Cells
pub mod Books
pub mod Copies
pub mod Rule
pub mod Panes
