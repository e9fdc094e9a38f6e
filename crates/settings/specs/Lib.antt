pub mod Texts
pub mod Said
pub mod Stored
pub mod Owes
