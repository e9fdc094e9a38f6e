pub mod Lists
pub mod Frames
pub mod Looks
pub mod Tallies
pub mod Called
