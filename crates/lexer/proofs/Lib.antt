pub mod Scans
pub mod Firsts
pub mod Picks
pub mod Tiling
