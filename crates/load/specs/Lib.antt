pub mod Bits
pub mod Load
pub mod Sentences
pub mod Machine
