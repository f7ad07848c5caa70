pub mod Quantities
pub mod Hours
pub mod HourAmounts
pub mod AmountSizes
pub mod Prices
pub mod PlainPrices
