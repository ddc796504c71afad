pub mod Sentences
