pub mod Lists
pub mod Bytes
pub mod Ranges
pub mod Charts
pub mod Reading
pub mod Laid
pub mod Words
