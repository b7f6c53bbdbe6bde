pub mod Clearing
pub mod Copying
pub mod Asking
pub mod Writing
