pub mod Ring
pub mod Domain
pub mod Free
pub mod Results
pub mod Lists
pub mod Limits
pub mod Laws
