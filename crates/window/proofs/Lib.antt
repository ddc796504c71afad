pub mod WindowLaws
pub mod Sentences
pub mod Examples
