pub mod Names
pub mod One
