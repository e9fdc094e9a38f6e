pub mod Earlier
pub mod Frames
pub mod Lists
pub mod Owes
pub mod Parts
pub mod Past
pub mod Time
pub mod Values
