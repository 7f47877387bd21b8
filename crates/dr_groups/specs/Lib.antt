pub mod Links
pub mod Forests
pub mod Trees
pub mod Marks
pub mod Groups
pub mod Searches
pub mod Consistency
