pub mod Charges
pub mod AddsUp
pub mod WithinACent
pub mod Merged
pub mod MergedAccepted
pub mod Turned
