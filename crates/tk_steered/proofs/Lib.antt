pub mod Numbered
pub mod Answered
pub mod Continued
pub mod Folded
pub mod Laws
pub mod Settled
pub mod Stopped
pub mod StoppedLate
