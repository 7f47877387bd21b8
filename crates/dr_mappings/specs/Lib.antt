pub mod Lookups
pub mod Placements
pub mod Searches
