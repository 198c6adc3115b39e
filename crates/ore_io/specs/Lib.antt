pub mod Faults
pub mod Store
pub mod Calls
pub mod Memory
