pub mod Lines
pub mod Printing
pub mod Settling
pub mod Dating
pub mod GoingOn
