pub mod Written
pub mod WordsLeft
