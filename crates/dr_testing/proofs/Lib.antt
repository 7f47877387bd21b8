mod PlanLaws
mod StartLaws
pub mod StorageLaws
pub mod TestLaws
mod WaveLaws
pub mod WavesOf
