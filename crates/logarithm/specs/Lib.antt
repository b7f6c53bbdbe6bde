pub mod Logarithm
pub mod Table
