pub mod Lines
pub mod Texts
pub mod Conditions
pub mod Reports
pub mod Values
