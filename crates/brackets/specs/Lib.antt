pub mod Refusals
pub mod Brackets
pub mod Numbers
pub mod Pairings
pub mod Faults
pub mod Rows
