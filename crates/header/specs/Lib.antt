pub mod Lines
pub mod Walk
pub mod Header
pub mod Owes
