pub mod Fields
pub mod Kept
pub mod Kth
pub mod One
pub mod Over
pub mod Turns
pub mod Walks
pub mod Whole
