pub mod Checks
pub mod MainLists
pub mod SlowLists
pub mod Defined
pub mod Rows
pub mod Owes
