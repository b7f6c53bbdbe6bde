pub mod Codes
pub mod Outputs
pub mod Told
