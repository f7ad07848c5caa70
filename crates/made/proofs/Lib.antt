pub mod MadeBody
pub mod MadeFile
pub mod MadeMarks
