pub mod Frames
pub mod Expecting
pub mod Standings
