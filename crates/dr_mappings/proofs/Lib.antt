pub mod NearestLaws
pub mod AboveLaws
pub mod ListLaws
pub mod ChoiceLaws
