pub mod Gives
pub mod Import
pub mod Keeping
