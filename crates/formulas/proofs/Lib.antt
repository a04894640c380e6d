pub mod Keep
pub mod Chains
pub mod Steps
