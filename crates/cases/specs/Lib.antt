pub mod Frames
pub mod Lists
pub mod Pairs
pub mod Sessions
pub mod Starred
pub mod Walks
