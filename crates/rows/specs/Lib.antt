pub mod Members
pub mod Rows
pub mod Walk
pub mod Exchange
pub mod Kinds
