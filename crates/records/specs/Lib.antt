pub mod Owes
pub mod Records
