pub mod Faults
pub mod Dates
pub mod Reading
pub mod Steps
pub mod Firsts
pub mod Settings
pub mod Calls
