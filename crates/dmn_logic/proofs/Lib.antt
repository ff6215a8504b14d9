pub mod Boxes
pub mod Growing
pub mod Readings
pub mod ReadingSteps
pub mod Unread
pub mod Tables
pub mod Told
pub mod Kept
