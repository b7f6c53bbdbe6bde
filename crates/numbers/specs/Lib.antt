pub mod Limits
pub mod Sum
pub mod Every
pub mod Renames
