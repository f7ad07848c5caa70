pub mod Sizes
pub mod Rounded
pub mod Unneeded
pub mod PeakHours
pub mod InCents
