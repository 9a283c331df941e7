pub mod Giving
pub mod ChangeCounter
pub mod Folding
pub mod Items
pub mod Kept
pub mod Latest
pub mod Room
pub mod Running
pub mod Runs
pub mod Steps
pub mod Stretches
pub mod Updates
mod Worked
pub mod Commands
