pub mod Rules
pub mod Gathered
