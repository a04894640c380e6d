pub mod Steps
pub mod Counts
pub mod Ranges
pub mod Deciding
pub mod Digits
pub mod Refused
pub mod Verdicts
