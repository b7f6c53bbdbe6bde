pub mod Counted
pub mod Feeds
