pub mod Records
pub mod Held
pub mod Bumped
pub mod Fed
pub mod Located
pub mod Samples
