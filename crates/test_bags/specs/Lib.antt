pub mod Marks
pub mod ManyFiles
