pub mod Publications
pub mod Pushing
pub mod Keeping
pub mod Writing
pub mod Reading
pub mod Seats
