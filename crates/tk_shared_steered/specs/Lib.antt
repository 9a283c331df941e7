pub mod Errors
pub mod Given
pub mod Readings
pub mod Owner
pub mod Opened
pub mod Asked
pub mod Late
