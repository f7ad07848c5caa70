pub mod Demands
pub mod Charges
pub mod Hours
