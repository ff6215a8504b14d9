pub mod Decision
pub mod Places
pub mod Plan
pub mod Outcomes
pub mod Run
