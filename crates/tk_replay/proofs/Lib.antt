pub mod Traces
mod Worked
pub mod Outcomes
