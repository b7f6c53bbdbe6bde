pub mod Answering
pub mod Refusing
