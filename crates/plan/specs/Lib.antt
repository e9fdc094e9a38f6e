pub mod Known
pub mod Plan
pub mod Sound
pub mod Owes
