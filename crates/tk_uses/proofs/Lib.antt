pub mod InTurn
pub mod Stopped
pub mod Newcomers
pub mod Risen
