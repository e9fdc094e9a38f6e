pub mod Lines
pub mod One
pub mod Pairs
pub mod Texts
