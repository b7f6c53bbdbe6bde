pub mod Room
pub mod Table
pub mod Machine
pub mod Serial
pub mod Alone
pub mod Real
