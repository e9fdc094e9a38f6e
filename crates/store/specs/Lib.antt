pub mod Definition
pub mod Owes
pub mod State
