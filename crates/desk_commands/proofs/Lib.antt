pub mod Commands
pub mod Ending
