pub mod Columns
pub mod Sizes
pub mod Payments
pub mod Nothing
