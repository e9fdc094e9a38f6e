pub mod Text
pub mod Items
pub mod Said
pub mod Table
pub mod Rows
pub mod Width
pub mod Owes
