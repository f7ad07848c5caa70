pub mod Part
pub mod Halves
pub mod Words
pub mod Bytes
pub mod Totals
pub mod WithWord
