pub mod Bounded
pub mod InOrder
