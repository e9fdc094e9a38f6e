pub mod Codes
pub mod Needs
pub mod One
pub mod Papers
pub mod Rooms
pub mod Sound
