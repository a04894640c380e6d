pub mod Accepts
pub mod Areas
pub mod Every
pub mod Written
pub mod Nodes
