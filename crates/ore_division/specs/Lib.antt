pub mod StoredWork
pub mod Laws
