pub mod Trace
pub mod Many
pub mod ManyError
