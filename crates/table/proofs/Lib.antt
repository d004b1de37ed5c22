pub mod Strides
pub mod ChartTables
pub mod EmptyTables
pub mod Turns
pub mod LimitSums
pub mod TighterPlaces
