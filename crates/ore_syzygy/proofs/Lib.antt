pub mod Loops
pub mod EventOrigins
pub mod RowsFrom
pub mod HonestBlocks
pub mod FollowedKernels
pub mod RunKernels
pub mod ValidBlocks
