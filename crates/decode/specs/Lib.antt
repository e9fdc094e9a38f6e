pub mod Variable
pub mod TaggedVariable
pub mod Whole
pub mod Owes
