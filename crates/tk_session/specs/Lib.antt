pub mod Fault
pub mod Told
pub mod Session
pub mod Closed
pub mod Run
pub mod Texts
pub mod Whole
