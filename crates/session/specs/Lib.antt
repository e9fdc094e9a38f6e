pub mod Owes
