pub mod Ranges
pub mod Parts
pub mod Windows
pub mod Layouts
pub mod Told
