pub mod AtOnce
pub mod BySide
pub mod Drifts
mod ExitNames
pub mod Listed
pub mod MachineAt
pub mod Making
pub mod TokenLaws
