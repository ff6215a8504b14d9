pub mod Unbroken
pub mod Spans
pub mod Classes
