pub mod Joined
pub mod Told
