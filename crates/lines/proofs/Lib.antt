pub mod TextLaws
pub mod FromFnLaws
pub mod AnswerLaws
pub mod PartLaws
pub mod Room
pub mod Examples
