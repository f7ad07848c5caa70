pub mod Files
pub mod Added
pub mod Withdrawn
