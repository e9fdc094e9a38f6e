pub mod Chunks
pub mod Groups
pub mod Owes
pub mod Place
pub mod Raws
