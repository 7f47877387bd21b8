pub mod KeptLaws
pub mod StepLaws
pub mod StartLaws
pub mod SlotLaws
pub mod StepFacts
pub mod StageFacts
