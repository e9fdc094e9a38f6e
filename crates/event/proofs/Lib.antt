pub mod Lawful
pub mod One
pub mod Patterns
pub mod Texts
pub mod Told
