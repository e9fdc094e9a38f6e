pub mod Behind
pub mod Bytes
pub mod Every
pub mod Found
pub mod Lawful
pub mod One
pub mod Reading
pub mod Searching
