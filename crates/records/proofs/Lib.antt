pub mod Gathering
pub mod One
