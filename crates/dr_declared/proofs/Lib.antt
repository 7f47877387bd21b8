mod MissingLaws
mod ReadingLaws
mod TextLaws
mod WholeLaws
pub mod UniqueLaws
pub mod PlanFacts
