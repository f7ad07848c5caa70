pub mod Places
pub mod Kept
pub mod Lengths
pub mod Runs
