pub mod Histories
pub mod Lines
pub mod Means
pub mod One
pub mod Predictions
pub mod Sums
