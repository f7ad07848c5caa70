pub mod GoodFile
pub mod OwnParts
pub mod OwnGood
