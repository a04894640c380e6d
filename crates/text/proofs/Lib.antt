pub mod Said
pub mod Heard
pub mod Whole
pub mod Steps
