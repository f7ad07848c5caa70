pub mod Hours
pub mod Sizes
