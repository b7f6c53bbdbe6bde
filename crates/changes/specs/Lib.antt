pub mod Changes
pub mod FedStore
pub mod Noted
pub mod Words
