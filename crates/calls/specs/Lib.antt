pub mod Call
pub mod Lent
pub mod Owes
pub mod Steps
