pub mod Calls
pub mod Define
pub mod Owes
pub mod Told
