pub mod Commands
pub mod Ends
pub mod Steps
pub mod Parts
pub mod Waves
pub mod Wants
