pub mod Alone
pub mod Lined
pub mod Lines
pub mod One
pub mod Walking
pub mod Within
