pub mod Latch
pub mod Publications
pub mod Views
pub mod Rule
pub mod Steps
pub mod Attempt
pub mod Errors
