pub mod Runs
pub mod From
pub mod Demand3
pub mod Code
