pub mod Areas
pub mod Accepted
mod NeverRefused
mod Fits
pub mod Places
pub mod Room
pub mod Stands
pub mod Shown
pub mod Hours
