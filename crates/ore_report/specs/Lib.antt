pub mod ChainRule
pub mod RuleLaw
pub mod Codes
pub mod Queue
pub mod Live
pub mod Replay
