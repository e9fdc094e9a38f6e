pub mod Owes
pub mod Walks
