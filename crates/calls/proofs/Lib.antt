pub mod Settled
pub mod Keeping
pub mod Running
pub mod RunSettled
pub mod FewFeeds
pub mod Reporting
pub mod OneAnswer
