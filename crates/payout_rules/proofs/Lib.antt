pub mod Areas
pub mod Basis
pub mod Rule
pub mod Paid
