pub mod Plans
pub mod Writing
