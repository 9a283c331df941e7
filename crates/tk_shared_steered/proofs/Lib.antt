pub mod Given
pub mod KnownBy
pub mod Readings
pub mod Steps
pub mod Taken
pub mod Opened
