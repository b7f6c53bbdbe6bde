pub mod TrueCounts
pub mod OwnReport
pub mod Numbers
pub mod SameActs
pub mod Short
