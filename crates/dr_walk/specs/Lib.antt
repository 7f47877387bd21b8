pub mod Routes
pub mod Walks
pub mod Taking
