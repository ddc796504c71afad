pub mod BitLaws
pub mod CallLaws
pub mod WrittenLaws
pub mod UniqueLaws
pub mod Sentences
pub mod Examples
