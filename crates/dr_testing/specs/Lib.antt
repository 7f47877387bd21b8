pub mod Storage
pub mod Placing
pub mod Starts
pub mod Tests
