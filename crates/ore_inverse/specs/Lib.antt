pub mod Runs
pub mod StoredReductions
pub mod Inverses
pub mod Search
