pub mod Round
pub mod Floor
pub mod Total
