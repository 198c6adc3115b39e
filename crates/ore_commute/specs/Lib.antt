pub mod ClosedForm
pub mod Product
