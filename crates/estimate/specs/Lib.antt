pub mod Trees
pub mod Score
pub mod Ties
pub mod Recursion
pub mod Table
pub mod Adding
pub mod Doubled
pub mod Exchange
