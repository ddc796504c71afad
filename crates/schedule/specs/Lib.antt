pub mod Timer
pub mod Scan
pub mod Schedule
pub mod Scheduled
pub mod Standing
pub mod Sentences
