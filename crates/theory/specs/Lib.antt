pub mod Formula
pub mod Shapes
pub mod Truth
