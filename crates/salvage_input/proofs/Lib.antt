pub mod PutOut
pub mod Filtering
