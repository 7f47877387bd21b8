pub mod Counting
pub mod Fields
pub mod FileNames
pub mod KeptText
pub mod MachineText
pub mod Opening
pub mod PairText
