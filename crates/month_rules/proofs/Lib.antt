pub mod OneDay
pub mod Days
pub mod Rule
