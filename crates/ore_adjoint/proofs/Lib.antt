pub mod AdjointLoops
pub mod AdjointValues
