pub mod Bytes
pub mod Tokens
pub mod Faults
pub mod Steps
pub mod Tiles
