pub mod Names
pub mod Owes
