pub mod Telling
pub mod Numbers
pub mod Accepted
pub mod Refused
pub mod Settled
pub mod StoresSettled
pub mod RoundTrips
pub mod Saving
