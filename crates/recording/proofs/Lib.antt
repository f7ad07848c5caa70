pub mod Lists
pub mod AreaMarks
pub mod InPlace
pub mod AllMarked
