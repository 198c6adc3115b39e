pub mod Gcd
pub mod Fraction
pub mod Reduced
pub mod Within
pub mod Range
pub mod Stored
pub mod FractionRing
pub mod Field
