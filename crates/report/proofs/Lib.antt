pub mod Standing
pub mod ByValue
pub mod Refusing
pub mod Writing
pub mod Answering
pub mod Negative
