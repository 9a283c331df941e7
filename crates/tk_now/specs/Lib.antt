pub mod Views
pub mod Moments
pub mod Rule
pub mod Steps
pub mod Honest
pub mod Life
pub mod Ticker
pub mod Busy
