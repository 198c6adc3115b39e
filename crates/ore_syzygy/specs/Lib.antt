pub mod RunBlock
pub mod Kernels
pub mod Laws
