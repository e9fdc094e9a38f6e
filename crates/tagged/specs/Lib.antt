pub mod Choose
pub mod Tagged32
pub mod Tagged16
pub mod Owes
pub mod Sized
