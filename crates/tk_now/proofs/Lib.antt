pub mod Lists
pub mod Keeping
pub mod Announcing
pub mod Timing
pub mod Honesty
pub mod Noting
pub mod Life
