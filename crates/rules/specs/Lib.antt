pub mod Feed
pub mod Report
pub mod Question
pub mod Rules
pub mod Strings
pub mod SameActs
pub mod Short
pub mod Orders
