pub mod Ciso
pub mod Check
pub mod Lookup
pub mod Plain
