pub mod Rising
pub mod Marking
pub mod ClassWords
pub mod Marked
