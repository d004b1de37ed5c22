pub mod Middles
pub mod JoinTables
