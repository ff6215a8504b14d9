pub mod Along
pub mod Kept
pub mod Given
pub mod Decisions
pub mod Result
pub mod OneOrContext
pub mod Known
