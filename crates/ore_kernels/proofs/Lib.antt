pub mod FollowedPlans
