pub mod Widths
pub mod Classes
pub mod Raw
pub mod RawTime
