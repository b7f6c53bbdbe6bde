pub mod Layout
pub mod Sound
pub mod Walk
pub mod Plain
pub mod Meaning
pub mod Making
