pub mod Salvage
pub mod Saving
