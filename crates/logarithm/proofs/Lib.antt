pub mod Laws
pub mod Terms
pub mod Squaring
pub mod Twos
pub mod Settled
