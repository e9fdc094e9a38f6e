pub mod Escapes
pub mod Interval
pub mod Lines
pub mod Owes
pub mod Sections
pub mod Three
pub mod Words
pub mod Written
