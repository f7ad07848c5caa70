pub mod WellFormed
pub mod Numbers
pub mod LookedUp
