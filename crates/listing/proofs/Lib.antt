pub mod Planning
pub mod Sheets
pub mod Putting
pub mod Reporting
pub mod Onward
pub mod WholeSheet
pub mod Decisions
