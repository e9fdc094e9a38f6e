pub mod Checked
pub mod Cut
pub mod Ended
pub mod Laying
pub mod One
pub mod OneRow
pub mod Turns
