pub mod Commanding
pub mod Ending
pub mod Entries
pub mod Marking
pub mod Posting
pub mod Writing
