pub mod Lawful
pub mod Wholes
pub mod Ordered
