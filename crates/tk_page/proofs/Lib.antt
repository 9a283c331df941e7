pub mod Beginnings
pub mod Packed
pub mod Shown
pub mod Views
pub mod Steps
pub mod Kept
pub mod Stored
