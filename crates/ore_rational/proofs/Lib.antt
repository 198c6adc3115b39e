pub mod FractionLaws
pub mod WithinLaws
pub mod Bounds
pub mod Stored
pub mod Quotients
pub mod Reciprocals
pub mod Whole
