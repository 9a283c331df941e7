pub mod Lanes
pub mod Drawn
pub mod Spans
pub mod Filled
