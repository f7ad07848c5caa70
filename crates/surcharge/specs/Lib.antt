pub mod Surcharge
pub mod Ranges
