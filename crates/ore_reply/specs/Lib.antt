pub mod Prefix
pub mod InputEnd
pub mod Replies
pub mod FaultReply
pub mod MadeReply
pub mod Answered
