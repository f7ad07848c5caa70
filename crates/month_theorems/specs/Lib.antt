pub mod Parts
pub mod OneByOne
pub mod OtherDays
