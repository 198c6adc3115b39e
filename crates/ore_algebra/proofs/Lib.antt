pub mod ListLaws
pub mod Orderings
pub mod ResultLaws
pub mod LimitLaws
pub mod GroupLaws
pub mod RingLaws
pub mod Normal
pub mod NormalIs
pub mod ModuleIs
pub mod FieldLaws
pub mod DomainLaws
pub mod FreeLaws
pub mod Linear
pub mod Integers
pub mod RingMaps
pub mod Solve
mod Examples
