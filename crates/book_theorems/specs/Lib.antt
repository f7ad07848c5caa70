pub mod ByDays
pub mod Order
