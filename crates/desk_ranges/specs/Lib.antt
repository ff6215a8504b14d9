pub mod Lines
pub mod Gives
