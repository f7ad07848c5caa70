pub mod Entries
pub mod Facts
pub mod Lookup
