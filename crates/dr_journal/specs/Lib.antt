pub mod Reading
pub mod Gates
pub mod Held
pub mod Kept
pub mod State
pub mod Places
pub mod Walk
pub mod Causes
