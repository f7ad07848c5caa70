pub mod Days
pub mod Read
pub mod Check
pub mod Sound
