pub mod Kept
pub mod Stopped
