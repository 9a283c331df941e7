pub mod Answering
pub mod Timing
pub mod Acting
pub mod Actors
pub mod Outcome
pub mod Errors
