pub mod Requests
pub mod Rows
pub mod Runs
pub mod Pairs
