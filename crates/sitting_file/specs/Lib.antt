pub mod Format
pub mod Samples
pub mod Verdict
pub mod Input
pub mod OldLimit
