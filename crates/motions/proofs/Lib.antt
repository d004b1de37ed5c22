pub mod WindowTurns
pub mod Stars
pub mod WindowTight
pub mod Sized
pub mod NewTables
pub mod Trips
pub mod Ranges
pub mod Moved
