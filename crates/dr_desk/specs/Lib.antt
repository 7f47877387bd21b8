pub mod Calls
pub mod Decisions
pub mod Faults
pub mod Rooms
pub mod Streams
pub mod Words
