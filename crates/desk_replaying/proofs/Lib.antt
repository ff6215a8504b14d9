mod Examples
pub mod Fewness
pub mod Counting
pub mod Finding
pub mod Turning
pub mod Hearing
pub mod Laws
pub mod Decisions
pub mod GoesOn
