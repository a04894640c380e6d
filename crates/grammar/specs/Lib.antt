pub mod Grammar
pub mod Laws
pub mod Faults
pub mod Lines
