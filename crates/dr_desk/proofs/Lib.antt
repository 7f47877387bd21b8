pub mod AnswerLaws
pub mod CallLaws
pub mod CauseLaws
pub mod FindLaws
pub mod StreamsLaws
pub mod TestableLaws
pub mod WordsLaws
