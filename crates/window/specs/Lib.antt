pub mod Window
pub mod Machine
pub mod Sentences
