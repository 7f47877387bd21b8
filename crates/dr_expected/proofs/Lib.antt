pub mod FrameLaws
pub mod PostLaws
pub mod ShownLaws
