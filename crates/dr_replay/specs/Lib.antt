pub mod Following
pub mod Replays
pub mod Values
