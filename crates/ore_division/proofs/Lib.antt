pub mod Heights
pub mod Steps
pub mod Reductions
pub mod Leaves
pub mod StoredSteps
pub mod StoredReductions
