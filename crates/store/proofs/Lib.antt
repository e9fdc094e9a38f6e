pub mod Definitions
pub mod KeptDefinition
pub mod KeptState
pub mod One
pub mod States
