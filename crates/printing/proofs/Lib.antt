pub mod Decimals
pub mod Lines
pub mod Reports
pub mod Lengths
pub mod Settled
pub mod Reading
pub mod Examples
