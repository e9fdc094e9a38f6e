pub mod Alone
pub mod Cases
pub mod Fits
pub mod Kept
pub mod One
pub mod Settling
pub mod Texts
