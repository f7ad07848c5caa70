pub mod Rules
pub mod HourPlaces
pub mod Kept
pub mod PlainHours
