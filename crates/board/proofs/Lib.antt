pub mod Standings
pub mod Opening
pub mod Worked
pub mod Growing
pub mod Telling
