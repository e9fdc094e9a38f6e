pub mod Extent
pub mod Owes
pub mod Sight
