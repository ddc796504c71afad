pub mod Answers
pub mod Sums
pub mod Fractions
pub mod Code
pub mod Correction
pub mod Machine
pub mod Sentences
pub mod Bench
