pub mod FollowedLinks
pub mod FollowedExtension
pub mod TorsionByExtension
