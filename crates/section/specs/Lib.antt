pub mod Answers
pub mod Fits
pub mod Lent
pub mod Owes
pub mod Refusals
pub mod Tally
pub mod Walk
