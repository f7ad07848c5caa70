pub mod Verdict
pub mod First
