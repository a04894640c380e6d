pub mod Growth
pub mod Truths
