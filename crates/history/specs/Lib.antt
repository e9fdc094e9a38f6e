pub mod History
pub mod Owes
pub mod Parts
