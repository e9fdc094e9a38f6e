pub mod Loads
pub mod One
pub mod Round
pub mod Stores
