pub mod File
pub mod Parts
pub mod BodyPart
