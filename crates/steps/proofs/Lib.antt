pub mod Idle
pub mod Running
pub mod Both
