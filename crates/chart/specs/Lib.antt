pub mod Share
pub mod Answer
pub mod Says
