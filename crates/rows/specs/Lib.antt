pub mod Lent
pub mod Owes
pub mod Rows
