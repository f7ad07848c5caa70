pub mod Settlement
pub mod SoundFile
pub mod Shown
