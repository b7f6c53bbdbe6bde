pub mod Tests
pub mod Orders
pub mod Sums
pub mod Lists
pub mod Every
pub mod Permuting
