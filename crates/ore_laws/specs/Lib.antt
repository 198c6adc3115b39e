pub mod Laws
pub mod Columns
