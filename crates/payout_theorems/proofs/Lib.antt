pub mod Sums
pub mod Shown
pub mod Collected
pub mod PaidOut
pub mod PassingOnly
pub mod Payments
