pub mod Days
pub mod Merge
pub mod Alone
pub mod Changed
