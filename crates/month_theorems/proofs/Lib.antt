pub mod Answers
pub mod Parts
pub mod OneByOne
pub mod OtherDays
