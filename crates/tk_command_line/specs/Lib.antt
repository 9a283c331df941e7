pub mod Request
pub mod CommandLine
pub mod WordsError
