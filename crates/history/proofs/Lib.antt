pub mod One
pub mod Past
