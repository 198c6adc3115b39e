pub mod FirstDivisor
pub mod StoredLeads
