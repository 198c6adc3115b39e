pub mod FirstEntries
pub mod Verdicts
