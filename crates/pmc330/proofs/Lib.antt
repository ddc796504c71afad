pub mod QuestionLaws
pub mod WordLaws
pub mod AccessLaws
pub mod RawLaws
pub mod RawTimeLaws
