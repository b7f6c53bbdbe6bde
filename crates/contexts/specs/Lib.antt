pub mod Context
pub mod Counts
pub mod Keys
pub mod Strings
pub mod Sitting
