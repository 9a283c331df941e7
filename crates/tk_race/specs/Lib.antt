pub mod Replies
pub mod Race
pub mod RaceError
pub mod Actor
