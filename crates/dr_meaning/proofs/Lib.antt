pub mod Lists
pub mod Elements
pub mod StageLists
pub mod AppendLaws
