pub mod Dividing
pub mod Dickson
pub mod LeadsEnd
pub mod Masks
