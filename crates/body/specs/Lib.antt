pub mod Layout
pub mod Check
pub mod Kept
pub mod Plain
