pub mod Standing
pub mod Calls
pub mod Left
pub mod Holding
pub mod Done
pub mod Settling
