pub mod Price
pub mod Ranged
pub mod Intervals
pub mod Sums
