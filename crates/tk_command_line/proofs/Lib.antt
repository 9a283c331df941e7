pub mod Worked
pub mod Words
