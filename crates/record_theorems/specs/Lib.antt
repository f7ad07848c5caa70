pub mod Entries
pub mod Left
pub mod Files
pub mod WithRecord
