pub mod Counting
pub mod Telling
pub mod Answered
pub mod Added
