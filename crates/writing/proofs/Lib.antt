pub mod Good
pub mod Sizes
pub mod Answers
pub mod RoundTrip
pub mod Settled
pub mod Examples
