pub mod Digits
pub mod CodeWalk
pub mod Joining
pub mod Verdicts
pub mod Settling
pub mod Examples
