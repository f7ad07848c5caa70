pub mod Tests
pub mod Accepted
pub mod First
