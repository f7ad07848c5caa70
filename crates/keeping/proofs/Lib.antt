pub mod Placed
pub mod Rules
pub mod Results
