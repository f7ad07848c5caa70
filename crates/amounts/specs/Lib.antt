pub mod Amounts
pub mod Ranges
