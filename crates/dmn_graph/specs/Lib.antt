pub mod Reach
pub mod Needs
pub mod Members
pub mod SearchState
pub mod Within
pub mod WalkState
