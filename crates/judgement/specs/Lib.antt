pub mod Refusals
pub mod Judgement
pub mod Sitting
pub mod Answers
pub mod Prints
