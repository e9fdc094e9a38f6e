pub mod Histories
pub mod Owes
pub mod Predictors
pub mod Sign
