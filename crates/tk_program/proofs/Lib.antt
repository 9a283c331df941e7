pub mod ManyText
pub mod RaceLines
pub mod FilesRead
pub mod Openable
