pub mod Ranges
pub mod Editions
