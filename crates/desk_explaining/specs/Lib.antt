pub mod Due
pub mod Script
pub mod StateView
pub mod ExplainedLine
pub mod Reasons
