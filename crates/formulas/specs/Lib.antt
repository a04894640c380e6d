pub mod Faults
pub mod Reading
pub mod Sentences
pub mod Readers
pub mod Stores
pub mod Steps
pub mod Parsers
