pub mod Kinds
pub mod Layout
pub mod Parts
pub mod Reads
