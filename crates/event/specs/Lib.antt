pub mod Events
pub mod Owes
