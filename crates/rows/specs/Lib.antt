pub mod Counts
pub mod Out
pub mod Records
