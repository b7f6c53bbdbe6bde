pub mod Loops
pub mod OneRecord
pub mod Turn
