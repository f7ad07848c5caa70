pub mod Paid
pub mod Columns
pub mod Ranges
