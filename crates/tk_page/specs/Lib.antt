pub mod History
pub mod Packing
pub mod Views
pub mod PageError
pub mod Stored
