pub mod Got
pub mod Owes
pub mod Place
pub mod Search
