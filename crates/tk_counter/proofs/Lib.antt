pub mod Frequency
pub mod Gaps
pub mod Rates
mod Worked
pub mod Seconds
