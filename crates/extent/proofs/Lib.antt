pub mod First
pub mod Flag
pub mod Lawful
pub mod One
pub mod Reach
pub mod Trials
