pub mod Answers
pub mod Quotients
pub mod Shares
pub mod Gaps
pub mod Tables
pub mod Examples
pub mod Sayings
pub mod Totals
