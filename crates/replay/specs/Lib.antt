pub mod History
pub mod Slots
pub mod Lending
