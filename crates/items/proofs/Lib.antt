pub mod Blanks
pub mod Items
pub mod One
pub mod Rows
pub mod Saying
pub mod Tables
