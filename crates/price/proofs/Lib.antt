pub mod Sizes
pub mod Raised
pub mod Answers
pub mod MissingPrices
pub mod Count
