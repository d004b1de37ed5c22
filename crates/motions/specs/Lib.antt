pub mod Windows
pub mod Star
