pub mod Sitting
pub mod Trees
pub mod Visit
pub mod Weighs
pub mod Marks
