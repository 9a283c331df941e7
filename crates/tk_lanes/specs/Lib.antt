pub mod Batch
pub mod BatchError
pub mod Segment
