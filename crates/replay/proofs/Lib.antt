pub mod Lent
pub mod Parts
pub mod Serving
pub mod Histories
