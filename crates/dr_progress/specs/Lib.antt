pub mod Facts
pub mod Progress
