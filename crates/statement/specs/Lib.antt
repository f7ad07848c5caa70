pub mod Block
pub mod Ranges
