pub mod Meaning
pub mod Rows
pub mod Refusals
pub mod Causes
pub mod Actions
pub mod Stages
pub mod Verdict
