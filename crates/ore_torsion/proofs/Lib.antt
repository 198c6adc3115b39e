pub mod FirstRows
pub mod FormedVerdicts
pub mod FollowedAnalysis
