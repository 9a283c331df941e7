pub mod Codes
pub mod Storage
pub mod Recorded
pub mod Saved
pub mod Rows
