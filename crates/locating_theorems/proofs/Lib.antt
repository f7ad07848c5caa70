pub mod InBody
pub mod Found
