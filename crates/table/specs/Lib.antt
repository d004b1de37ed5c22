pub mod Cells
pub mod Finds
pub mod Compared
