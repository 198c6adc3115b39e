pub mod Unknowns
pub mod CommonMultiples
pub mod ColumnProducts
pub mod TorsionOrColumn
pub mod KernelTorsion
