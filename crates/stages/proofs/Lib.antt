pub mod Heard
pub mod Made
