pub mod InTurn
pub mod Steered
