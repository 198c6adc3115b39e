pub mod Basics
pub mod Leads
pub mod Honesty
pub mod GivenRuns
pub mod Calls
pub mod OneRun
pub mod Replay
pub mod Completeness
pub mod Uniqueness
pub mod Budget
pub mod AnyRuleLaws
pub mod OnlyForced
pub mod Endings
pub mod FirstFailing
mod Examples
